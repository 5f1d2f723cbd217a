-- `words::copy_words` meets its contract. Assumes nothing.
use Prim.Native.Nat.{min}
use mathlib.Core.Path.{◌≡◌}
use native.Mathlib.Omega.{arith}
use lib.ListN.{length}
use Rattle.std.proofs.lemmas.List.{take_min, drop_min}
use Rattle.words.specs.Words.{copied}
use Rattle.words.proofs.copy_words.Goals as goal

pub returns : goal.returns
unfolding copied
returns c =
    let s = length c.args.src.now in
    let d = length c.args.dst.now in
    let other : min s d ≡ min d s = omega arith in
    rw (c.copy_from_slice.ensures.after, c.min-n.ensures, drop_min, other, take_min)
