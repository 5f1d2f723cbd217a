-- The words of a crate's boards, board by board: twelve for each (`twelves`).
-- Assumes nothing.
use Prim.Native.Nat.{ℕ, zero, suc, ◌+◌, ◌*◌, ◌<◌}
use mathlib.Core.Path.{◌≡◌, refl, sym, ap, ap₂, ◌∙◌}
use mathlib.Core.List.{List, [], ◌∷◌, ◌++◌, append_assoc}
use native.Mathlib.Omega.{arith}
use lib.ListN.{length, take, drop, set, length-drop, take-append-drop}
use lib.Seq.{length-take-le, take_at, drop_at, drop-drop}
use Rattle.steps.specs.declared.Event.TheVariants.{Reply, TimeUp}
use Rattle.steps.proofs.Carried.{twelve-rates}
use Rattle.crate_pass.specs.Crate.{with_twelve}
use Rattle.any_order.specs.Steps.{Event, reply, time_up, judged}

-- those of n boards
unfoldable pub twelves : ℕ → List ℕ → List (List ℕ)
twelves zero words = []
twelves (suc n) words = take 12 words ∷ twelves n (drop 12 words)

-- after those of one board come those of the others
twelves-front : (n : ℕ) (own rest : List ℕ) → length own ≡ 12 → twelves (suc n) (own ++ rest) ≡ own ∷ twelves n rest
unfolding twelves
twelves-front n own rest e = ap₂ (λ (x : List ℕ) (l : List ℕ). x ∷ twelves n l) (take_at own rest 12 e) (drop_at own rest 12 e)

-- the words of a board after the first are among those of the others
none-taken : (n : ℕ) → ◌≡◌ {A = List ℕ} (take n []) []
none-taken zero = refl
none-taken (suc n) = refl

take-further : (m n : ℕ) (l : List ℕ) → take (m + n) l ≡ take m l ++ take n (drop m l)
take-further zero n l = ap (λ (k : ℕ). take k l) (let e : 0 + n ≡ n = omega arith in e)
take-further (suc m) n [] = none-taken (suc m + n) ∙ sym (none-taken n)
take-further (suc m) n (x ∷ l) =
    ap (λ (k : ℕ). take k (x ∷ l)) (let e : suc m + n ≡ suc (m + n) = omega arith in e) ∙ ap (λ (ys : List ℕ). x ∷ ys) (take-further m n l)

twelve-further : (b : ℕ) (words own : List ℕ) → with_twelve (suc b) words own ≡ take 12 words ++ with_twelve b (drop 12 words) own
unfolding with_twelve
twelve-further b words own =
    let n = 12 * b in
    let e : 12 * suc b ≡ 12 + n = omega arith in
    let f : 12 * suc b + 12 ≡ 12 + (n + 12) = omega arith in
    ap₂ (λ (x y : List ℕ). x ++ (own ++ y))
    (ap (λ (k : ℕ). take k words) e ∙ take-further 12 n words)
    (ap (λ (k : ℕ). drop k words) f ∙ sym (drop-drop (n + 12) 12 words))
    ∙ append_assoc (take 12 words) (take n (drop 12 words)) (own ++ drop (n + 12) (drop 12 words))

twelves-first : (n : ℕ) (words own : List ℕ) → length own ≡ 12 → twelves (suc n) (with_twelve 0 words own) ≡ own ∷ twelves n (drop 12 words)
unfolding with_twelve
twelves-first n words own e = twelves-front n own (drop 12 words) e

-- a board's words put in their place are its twelve
pub twelves-set : (n b : ℕ) (words own : List ℕ) → b < n → length words ≡ 12 * n → length own ≡ 12
    → twelves n (with_twelve b words own) ≡ set (twelves n words) b own
unfolding twelves
twelves-set zero b words own h l e = absurd (omega arith)
twelves-set (suc n) zero words own h l e = twelves-first n words own e
twelves-set (suc n) (suc b) words own h l e =
    ap (twelves (suc n)) (twelve-further b words own)
    ∙ twelves-front n (take 12 words) (with_twelve b (drop 12 words) own) (length-take-le 12 words (omega arith))
    ∙ ap (λ (ls : List (List ℕ)). take 12 words ∷ ls) (twelves-set n b (drop 12 words) own (omega arith) (length-drop 12 words ∙ rw l (omega arith)) e)

-- side by side they are all the words
abbrev pub joined : List (List ℕ) → List ℕ
joined [] = []
joined (l ∷ ls) = l ++ joined ls

pub twelves-joined : (n : ℕ) (words : List ℕ) → length words ≡ 12 * n → joined (twelves n words) ≡ words
unfolding twelves
twelves-joined zero [] l = refl
twelves-joined zero (x ∷ words) l = absurd (omega arith)
twelves-joined (suc n) words l =
    ap (λ (ys : List ℕ). take 12 words ++ ys) (twelves-joined n (drop 12 words) (length-drop 12 words ∙ rw l (omega arith)))
    ∙ take-append-drop 12 words

-- ---- what an event says has twelve

pub twelve-judged : (frame : List ℕ) (e : Event) → length (judged frame e).rates ≡ 12
twelve-judged frame (reply bytes) = twelve-rates Reply frame bytes
twelve-judged frame time_up = twelve-rates TimeUp frame []
