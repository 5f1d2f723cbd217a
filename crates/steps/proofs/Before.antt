-- A reply judged against a frame with 0 in the place of its CRC is judged as against the frame.
-- Assumes nothing.
use Prim.Native.Nat.{ℕ, ◌<◌, ◌≤◌}
use mathlib.Core.Path.{◌≡◌, ap, ◌∙◌}
use mathlib.Core.Bool.{Bool}
use mathlib.Core.List.{List, [], ◌∷◌, ◌++◌}
use lib.ListN.{length, take, get_or, get_or-append}
use lib.Seq.{length-take-le, get_or-take}
use Rattle.replies.specs.Replies.{carried_in, rates_in}
use Rattle.replies.proofs.Sent.{good-sent}
use Rattle.steps.specs.Steps.{judged_reply}

module _ (frame : List ℕ) (h : 27 ≤ length frame) where
  same : (k : ℕ) → k < 27 → get_or (take 27 frame ++ (0 ∷ [])) k 0 ≡ get_or frame k 0
  same k l =
      let within : k < length (take 27 frame) = rw (length-take-le 27 frame h) l in
      get_or-append (take 27 frame) (0 ∷ []) 0 k within ∙ get_or-take 27 frame k 0 l

  pub judged-before : (r : List ℕ) → judged_reply (take 27 frame ++ (0 ∷ [])) r ≡ judged_reply frame r
  unfolding judged_reply
  judged-before r =
      ap
      (λ (t : Bool). record { good = t; dna = (carried_in r).dna; crc_errors = (carried_in r).crc_errors; rates = rates_in r })
      (good-sent (take 27 frame ++ (0 ∷ [])) frame r same)
