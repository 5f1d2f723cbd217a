-- `steps::judge_reply` meets its contract: the frame's CRC says nothing of the reply. Assumes nothing.
use Rattle.steps.specs.Steps.{step_frame}
use native.Mathlib.Omega.{arith}
use Rattle.frames.proofs.Frames.{frame-length}
use Rattle.steps.proofs.Before.{judged-before}
use Rattle.steps.proofs.judge_reply.Goals as goal

pub returns : goal.returns
unfolding step_frame
returns c =
    rw (c.judge.ensures, c.frame_before_crc.ensures, c.code_numbered.ensures, c.settings_of-settings.ensures, c.board_words.ensures)
    (judged-before _ (rw (frame-length _ _ _) (omega arith)) _)
