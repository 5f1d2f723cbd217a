-- 01, Command words and Blocks sent out: what is handed back "as a part of the caller's words".
use Rattle.std.specs.Prelude.{ℕ, ◌+◌, ◌*◌, ◌-◌, ◌≡◌, List, length, take, drop}
use Rattle.std.specs.Borrow.{Bor}

-- the words from the place `start` on and before the place `end`
abbrev pub words_between : ℕ → ℕ → List ℕ → List ℕ
words_between start end w = take (end - start) (drop start w)

-- The reference `part` is the part of the lent words w from their place `start` on that holds the words l. It refers to the caller's own memory: it
-- stands after the words before that place, two bytes each
pub record PartOf (w : Bor (List ℕ)) (start : ℕ) (l : List ℕ) (part : Bor (List ℕ)) : Type 0 where
  pub contents : part.now ≡ l
  pub place : part.ref_ptr ≡ (w.ref_ptr.0, w.ref_ptr.1 + 2 * length (take start w.now))
