-- Replay script: lines as they are printed.
-- Assumes nothing.
use mathlib.Core.Path.{◌≡◌, refl}
use mathlib.Core.Bool.{true, false}
use mathlib.Core.List.{[], ◌∷◌, map}
use Rattle.commands.specs.declared.BlockKind.TheVariants.{Static, Dynamic}
use Rattle.commands.specs.declared.RunLength.TheVariants.{Endless, Counted}
use Rattle.commands.specs.declared.Command.TheVariants.{Read, Write, Start, Stop, Ping, CrateReset}
use Rattle.crate_pass.specs.declared.Outcome.TheVariants.{Good, Again, BoardFailed}
use Rattle.crate_pass.specs.declared.PassKind.TheVariants as kind
use Rattle.run.specs.declared.Freshness.TheVariants.{NeverWritten, UsedByRun, UsedByReset}
use Rattle.explanations.specs.declared.Activity.TheVariants.{Idle, Running, InPass, RunningInPass}
use Rattle.explanations.specs.Explaining.{range, accepted, missing, at_fault, in_state, not_fresh}
use Rattle.explanations.specs.Explaining as explaining
use Rattle.packets.specs.declared.Packet.{Packet}
use Rattle.blocks.specs.declared.Header.{Header}
use Rattle.texts.specs.Characters.{ascii}
use Rattle.texts.specs.Texts.{question, numbers, done, served, in_bytes, in_words, block, explanation, packet_numbers, text_of, decimal}

-- the first packet, no flag set; the last, every flag set
abbrev first : Packet
first =
    record {
      number = 1;
      fields =
          record {
            n = 4;
            external1 = false;
            external2 = false;
            tim_source = false;
            pulser_setting = 0;
            pedestal = false;
            lp2 = false;
            lp1 = false;
          };
    }

abbrev last : Packet
last =
    record {
      number = 4294967295;
      fields =
          record {
            n = 40;
            external1 = true;
            external2 = true;
            tim_source = true;
            pulser_setting = 15;
            pedestal = true;
            lp2 = true;
            lp1 = true;
          };
    }

abbrev header : Header
header = record { board_id = 7; firmware_id = 0x0303; trigger_counter = 70000; timestamp = 281474976710655 }

pub as-printed : map text_of
    (question
    ∷ numbers (0 ∷ [])
    ∷ numbers (20 ∷ [])
    ∷ done 5 (Read Static)
    ∷ done 5 (Read Dynamic)
    ∷ done 441 Write
    ∷ done 5 (Start Endless)
    ∷ done 7 (Start (Counted 70000))
    ∷ done 5 Stop
    ∷ done 5 Ping
    ∷ done 5 (CrateReset 2)
    ∷ numbers (4 ∷ 0 ∷ [])
    ∷ numbers (9 ∷ 441 ∷ [])
    ∷ numbers (8 ∷ 0 ∷ 432 ∷ [])
    ∷ served (Good false) (64 ∷ 0 ∷ 192 ∷ [])
    ∷ served (Again false) (171 ∷ [])
    ∷ served (BoardFailed true) []
    ∷ in_bytes (0 ∷ 171 ∷ 255 ∷ [])
    ∷ in_words (64 ∷ 48879 ∷ [])
    ∷ numbers (18446744073709551615 ∷ [])
    ∷ numbers (packet_numbers first)
    ∷ numbers (packet_numbers last)
    ∷ block header (0x0040 ∷ 0xBEEF ∷ [])
    ∷ [])
    ≡ (ascii "?\n"
    ∷ ascii "0\n"
    ∷ ascii "20\n"
    ∷ ascii "0 5 read static\n"
    ∷ ascii "0 5 read dynamic\n"
    ∷ ascii "0 441 write\n"
    ∷ ascii "0 5 start\n"
    ∷ ascii "0 7 start\n"
    ∷ ascii "0 5 stop\n"
    ∷ ascii "0 5 ping\n"
    ∷ ascii "0 5 reset 2\n"
    ∷ ascii "4 0\n"
    ∷ ascii "9 441\n"
    ∷ ascii "8 0 432\n"
    ∷ ascii "0 good 4000C0\n"
    ∷ ascii "0 again AB\n"
    ∷ ascii "0 failed done\n"
    ∷ ascii "0 00ABFF\n"
    ∷ ascii "0 0040BEEF\n"
    ∷ ascii "18446744073709551615\n"
    ∷ ascii "0 1 4 0 0 0 0 0 0 0\n"
    ∷ ascii "0 4294967295 40 1 1 1 15 1 1 1\n"
    ∷ ascii "0 0000000000000007 0303 70000 281474976710655 0040BEEF\n"
    ∷ [])
unfolding text_of decimal
as-printed = refl

-- "Explanations"
pub as-explained : map (λ x. text_of (explanation x))
    (accepted
    ∷ missing 1 2
    ∷ at_fault 2 0 0x0041 (explaining.numbers (0x0040 ∷ []))
    ∷ at_fault 3 1 0x0003 (explaining.numbers (0x0001 ∷ 0x0002 ∷ 0x0004 ∷ 0x0008 ∷ 0x0010 ∷ 0x0020 ∷ []))
    ∷ at_fault 4 2 0x0003 (explaining.numbers (0x0001 ∷ 0x0002 ∷ 0x0004 ∷ 0x0008 ∷ []))
    ∷ at_fault 5 4 0x0001 (explaining.numbers (0x0000 ∷ []))
    ∷ missing 6 435
    ∷ at_fault 7 5 0x0000 (range 0x0001 0xFFFF)
    ∷ at_fault 8 2 0x0400 (range 0x0000 0x03FF)
    ∷ in_state Idle
    ∷ in_state Running
    ∷ in_state (InPass kind.Reprogramming)
    ∷ in_state (InPass kind.Ping)
    ∷ in_state (InPass kind.Rates)
    ∷ in_state (RunningInPass kind.Rates)
    ∷ not_fresh NeverWritten
    ∷ not_fresh UsedByRun
    ∷ not_fresh UsedByReset
    ∷ [])
    ≡ (ascii "0 accepted\n"
    ∷ ascii "1 missing 2\n"
    ∷ ascii "2 word 0 is 0041, allowed 0040\n"
    ∷ ascii "3 word 1 is 0003, allowed 0001 0002 0004 0008 0010 0020\n"
    ∷ ascii "4 word 2 is 0003, allowed 0001 0002 0004 0008\n"
    ∷ ascii "5 word 4 is 0001, allowed 0000\n"
    ∷ ascii "6 missing 435\n"
    ∷ ascii "7 word 5 is 0000, allowed 0001 to FFFF\n"
    ∷ ascii "8 block word 2 is 0400, allowed 0000 to 03FF\n"
    ∷ ascii "9 idle\n"
    ∷ ascii "9 running\n"
    ∷ ascii "9 reprogramming\n"
    ∷ ascii "9 ping\n"
    ∷ ascii "9 rates\n"
    ∷ ascii "9 running and rates\n"
    ∷ ascii "10 nothing written\n"
    ∷ ascii "10 used by a run\n"
    ∷ ascii "10 used by a reset\n"
    ∷ [])
unfolding text_of decimal
as-explained = refl
