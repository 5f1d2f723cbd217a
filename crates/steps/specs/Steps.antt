-- 01, Slow control, and 02, i: the frame of a step, and what a reply or a time-up says as the answer to it.
use Rattle.std.specs.Prelude.{ℕ, false, cond, List, eqb, replicate}
use Rattle.configuration.specs.Configuration.{board_words, settings_of}
use Rattle.frames.specs.Frames.{frame_of}
use Rattle.frames.specs.declared.Code.{Code}
use Rattle.frames.specs.declared.Code.TheVariants.{Dacs, Enables, Prescaling, Ping, Rates}
use Rattle.replies.specs.Replies.{good_reply, carried_in, rates_in}
use Rattle.steps.specs.declared.Event.{Event}
use Rattle.steps.specs.declared.Event.TheVariants.{Reply, TimeUp}
use Rattle.steps.specs.declared.Judged.{Judged}

-- "Code 1 carries the five DACs, 2 the four enables, 3 the prescaling, 4 pings", and 5 asks for rates (02, i); there is no other
abbrev pub code_numbered : ℕ → Code
code_numbered n = cond (eqb n 1) Dacs (cond (eqb n 2) Enables (cond (eqb n 3) Prescaling (cond (eqb n 4) Ping Rates)))

-- the frame of a code to board b of crate c, with the board's settings in the block
unfoldable pub step_frame : List ℕ → ℕ → ℕ → ℕ → List ℕ
step_frame block c b code = frame_of c b (code_numbered code) (settings_of (board_words block c b))

-- what a reply says as the answer to the frame sent: whether it is good, the DNA and the CRC error byte that a ping reply carries, and the twelve words
-- that a reply with rates does
unfoldable pub judged_reply : List ℕ → List ℕ → Judged
judged_reply sent reply =
    record {
      good = good_reply sent reply;
      dna = (carried_in reply).dna;
      crc_errors = (carried_in reply).crc_errors;
      rates = rates_in reply;
    }

-- a time-up is no good reply
abbrev pub no_reply : Judged
no_reply = record { good = false; dna = 0; crc_errors = 0; rates = replicate 12 0 }

-- "A bad reply, or a time-up, sends again": what either says as the answer to the frame sent; a time-up has no bytes
abbrev pub judged_event : Event → List ℕ → List ℕ → Judged
judged_event Reply sent bytes = judged_reply sent bytes
judged_event TimeUp sent bytes = no_reply
