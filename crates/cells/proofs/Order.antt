-- `ordered` keeps each index's items in their own order (`only-ordered`, `from-ordered`), and its places rise (`ordered-rises`). What is made of each
-- item may be put in order too (`map-ordered`).
-- Assumes nothing.
use Prim.Native.Nat.{ℕ, zero, suc, ◌<◌, ◌≤◌}
use mathlib.Core.Path.{◌≡◌, refl, sym, ap, ap₂, ◌∙◌}
use mathlib.Core.List.{List, [], ◌∷◌, ◌++◌, map, append-nil, map-append}
use mathlib.Core.Bool.{Bool, true, false, cond}
use native.Mathlib.Omega.{arith}
use lib.Dec.{leb, eqb}
use borrow.Author.Tests.{eqb-true, eqb-false, leb-true, leb-false, eq-eqb, ne_eqb, le-leb, lt-leb}
use Rattle.cells.specs.Order.{only, from, below, ordered}

-- ---- the items for one index, and those of an index of n or more

module _ {Z : Type 0} (key : Z → ℕ) where
  pub only-take : (c : ℕ) (z : Z) (zs : List Z) → key z ≡ c → only key c (z ∷ zs) ≡ z ∷ only key c zs
  unfolding only
  only-take c z zs e = rw (eq-eqb _ _ e)

  pub only-skip : (c : ℕ) (z : Z) (zs : List Z) → (key z ≡ c → ⊥) → only key c (z ∷ zs) ≡ only key c zs
  unfolding only
  only-skip c z zs e = rw (ne_eqb _ _ e)

  pub from-take : (n : ℕ) (z : Z) (zs : List Z) → n ≤ key z → from key n (z ∷ zs) ≡ z ∷ from key n zs
  unfolding from
  from-take n z zs e = rw (le-leb _ _ e)

  pub from-skip : (n : ℕ) (z : Z) (zs : List Z) → key z < n → from key n (z ∷ zs) ≡ from key n zs
  unfolding from
  from-skip n z zs e = rw (lt-leb _ _ e)

  -- the two cases of a head
  pub data Head (c : ℕ) (z : Z) : Type 0 where
    here : key z ≡ c → Head c z
    other : (key z ≡ c → ⊥) → Head c z

  pub head : (c : ℕ) (z : Z) → Head c z
  head c z = go (eqb (key z) c) refl
    where
      go : (t : Bool) → eqb (key z) c ≡ t → Head c z
      go true e = here (eqb-true _ _ e)
      go false e = other (eqb-false _ _ e)

  pub data Side (n : ℕ) (z : Z) : Type 0 where
    high : n ≤ key z → Side n z
    low : key z < n → Side n z

  pub side : (n : ℕ) (z : Z) → Side n z
  side n z = go (leb n (key z)) refl
    where
      go : (t : Bool) → leb n (key z) ≡ t → Side n z
      go true e = high (leb-true _ _ e)
      go false e = low (leb-false _ _ e)

  -- ---- the items for c among other items

  only-append : (c : ℕ) (xs ys : List Z) → only key c (xs ++ ys) ≡ only key c xs ++ only key c ys
  unfolding only
  only-append c [] ys = refl
  only-append c (x ∷ xs) ys = go (eqb (key x) c) (only-append c xs ys)
    where
      go : (t : Bool) → only key c (xs ++ ys) ≡ only key c xs ++ only key c ys
          → cond t (x ∷ only key c (xs ++ ys)) (only key c (xs ++ ys)) ≡ cond t (x ∷ only key c xs) (only key c xs) ++ only key c ys
      go true ih = ap (λ l. x ∷ l) ih
      go false ih = ih

  only-only : (c : ℕ) (xs : List Z) → only key c (only key c xs) ≡ only key c xs
  unfolding only
  only-only c [] = refl
  only-only c (x ∷ xs) = go (head c x) (only-only c xs)
    where
      go : Head c x → only key c (only key c xs) ≡ only key c xs → only key c (only key c (x ∷ xs)) ≡ only key c (x ∷ xs)
      go (here e) ih = rw (only-take c x xs e) (only-take c x (only key c xs) e ∙ ap (λ l. x ∷ l) ih)
      go (other e) ih = rw (only-skip c x xs e) ih

  only-other : (c k : ℕ) (xs : List Z) → (k ≡ c → ⊥) → only key c (only key k xs) ≡ []
  unfolding only
  only-other c k [] n = refl
  only-other c k (x ∷ xs) n = go (head k x) (only-other c k xs n)
    where
      go : Head k x → only key c (only key k xs) ≡ [] → only key c (only key k (x ∷ xs)) ≡ []
      go (here e) ih = rw (only-take k x xs e) (only-skip c x (only key k xs) (λ h. n (sym e ∙ h)) ∙ ih)
      go (other e) ih = rw (only-skip k x xs e) ih

  only-from : (c n : ℕ) (xs : List Z) → c < n → only key c (from key n xs) ≡ []
  unfolding only from
  only-from c n [] h = refl
  only-from c n (x ∷ xs) h = go (side n x) (only-from c n xs h)
    where
      go : Side n x → only key c (from key n xs) ≡ [] → only key c (from key n (x ∷ xs)) ≡ []
      go (high e) ih = rw (from-take n x xs e) (only-skip c x (from key n xs) (λ q. omega arith) ∙ ih)
      go (low e) ih = rw (from-skip n x xs e) ih

  -- among the items below k those for c are all of them, where c is below k, and none where it is not
  pub only-below-none : (c k : ℕ) (xs : List Z) → k ≤ c → only key c (below key k xs) ≡ []
  unfolding below only
  only-below-none c zero xs h = refl
  only-below-none c (suc k) xs h =
      only-append c (below key k xs) (only key k xs)
      ∙ ap₂ ◌++◌ (only-below-none c k xs (omega arith)) (only-other c k xs (λ q. omega arith))

  only_below : (c k : ℕ) (xs : List Z) → c < k → only key c (below key k xs) ≡ only key c xs
  unfolding below
  only_below c zero xs h = absurd (omega arith)
  only_below c (suc k) xs h = only-append c (below key k xs) (only key k xs) ∙ go (eqb k c) refl (only_below c k xs)
    where
      go : (t : Bool) → eqb k c ≡ t → (c < k → only key c (below key k xs) ≡ only key c xs)
          → only key c (below key k xs) ++ only key c (only key k xs) ≡ only key c xs
      go true e ih =
          let q : k ≡ c = eqb-true _ _ e in
          ap₂ ◌++◌ (only-below-none c k xs (omega arith)) (rw q (only-only c xs))
      go false e ih =
          let q : k ≡ c → ⊥ = eqb-false _ _ e in
          ap₂ ◌++◌ (ih (omega arith)) (only-other c k xs q) ∙ append-nil _

  from-append : (n : ℕ) (xs ys : List Z) → from key n (xs ++ ys) ≡ from key n xs ++ from key n ys
  unfolding from
  from-append n [] ys = refl
  from-append n (x ∷ xs) ys = go (side n x) (from-append n xs ys)
    where
      go : Side n x → from key n (xs ++ ys) ≡ from key n xs ++ from key n ys → from key n (x ∷ xs ++ ys) ≡ from key n (x ∷ xs) ++ from key n ys
      go (high e) ih = rw (from-take n x (xs ++ ys) e, from-take n x xs e) (ap (λ l. x ∷ l) ih)
      go (low e) ih = rw (from-skip n x (xs ++ ys) e, from-skip n x xs e) ih

  from-only : (n c : ℕ) (xs : List Z) → c < n → from key n (only key c xs) ≡ []
  unfolding only from
  from-only n c [] h = refl
  from-only n c (x ∷ xs) h = go (head c x) (from-only n c xs h)
    where
      go : Head c x → from key n (only key c xs) ≡ [] → from key n (only key c (x ∷ xs)) ≡ []
      go (here e) ih = rw (only-take c x xs e) (from-skip n x (only key c xs) (omega arith) ∙ ih)
      go (other e) ih = rw (only-skip c x xs e) ih

  from-below : (n k : ℕ) (xs : List Z) → k ≤ n → from key n (below key k xs) ≡ []
  unfolding below from
  from-below n zero xs h = refl
  from-below n (suc k) xs h = from-append n (below key k xs) (only key k xs) ∙ ap₂ ◌++◌ (from-below n k xs (omega arith)) (from-only n k xs (omega arith))

  from-from : (n : ℕ) (xs : List Z) → from key n (from key n xs) ≡ from key n xs
  unfolding from
  from-from n [] = refl
  from-from n (x ∷ xs) = go (side n x) (from-from n xs)
    where
      go : Side n x → from key n (from key n xs) ≡ from key n xs → from key n (from key n (x ∷ xs)) ≡ from key n (x ∷ xs)
      go (high e) ih = rw (from-take n x xs e) (from-take n x (from key n xs) e ∙ ap (λ l. x ∷ l) ih)
      go (low e) ih = rw (from-skip n x xs e) ih

  -- ---- in an order the places rise: 0 first, and what has an index of n or more last

  -- an item's place in the order of n: its index, or n for every index of n or more
  abbrev pub place_in : ℕ → Z → ℕ
  place_in n z = cond (leb n (key z)) n (key z)

  -- each place is at least m, at most m, and at least those before it
  abbrev pub AtLeast : ℕ → ℕ → List Z → Type 0
  AtLeast n m [] = Unit
  AtLeast n m (z ∷ zs) = (m ≤ place_in n z) × AtLeast n m zs

  abbrev pub AtMost : ℕ → ℕ → List Z → Type 0
  AtMost n m [] = Unit
  AtMost n m (z ∷ zs) = (place_in n z ≤ m) × AtMost n m zs

  abbrev pub Rises : ℕ → List Z → Type 0
  Rises n [] = Unit
  Rises n (z ∷ zs) = AtLeast n (place_in n z) zs × Rises n zs

  module _ (n : ℕ) where
    least-lower : (m k : ℕ) (zs : List Z) → m ≤ k → AtLeast n k zs → AtLeast n m zs
    least-lower m k [] h a = tt
    least-lower m k (z ∷ zs) h a = (let q = a.0 in omega arith, least-lower m k zs h a.1)

    least-append : (m : ℕ) (xs ys : List Z) → AtLeast n m xs → AtLeast n m ys → AtLeast n m (xs ++ ys)
    least-append m [] ys a b = b
    least-append m (x ∷ xs) ys a b = (a.0, least-append m xs ys a.1 b)

    most-append : (m k : ℕ) (xs ys : List Z) → m ≤ k → AtMost n m xs → AtMost n k ys → AtMost n k (xs ++ ys)
    most-append m k [] ys h a b = b
    most-append m k (x ∷ xs) ys h a b = (let q = a.0 in omega arith, most-append m k xs ys h a.1 b)

    rises-append : (m : ℕ) (xs ys : List Z) → AtMost n m xs → AtLeast n m ys → Rises n xs → Rises n ys → Rises n (xs ++ ys)
    rises-append m [] ys a b r s = s
    rises-append m (x ∷ xs) ys a b r s =
        (least-append (place_in n x) xs ys r.0 (least-lower (place_in n x) m ys a.0 b), rises-append m xs ys a.1 b r.1 s)

    -- items that all have one place
    record Level (m : ℕ) (zs : List Z) : Type 0 where
      least : AtLeast n m zs
      most : AtMost n m zs
      rises : Rises n zs

    level-more : (m : ℕ) (z : Z) (zs : List Z) → place_in n z ≡ m → Level m zs → Level m (z ∷ zs)
    level-more m z zs e l =
        record { least = (omega arith, l.least); most = (omega arith, l.most); rises = (least-lower (place_in n z) m zs (omega arith) l.least, l.rises) }

    level-none : (m : ℕ) → Level m []
    level-none m = record { least = tt; most = tt; rises = tt }

    only-level : (c : ℕ) (zs : List Z) → c < n → Level c (only key c zs)
    unfolding only
    only-level c [] h = level-none c
    only-level c (z ∷ zs) h = go (head c z) (only-level c zs h)
      where
        go : Head c z → Level c (only key c zs) → Level c (only key c (z ∷ zs))
        go (here e) ih = let l : key z < n = omega arith in rw (only-take c z zs e) (level-more c z (only key c zs) (rw (lt-leb _ _ l) e) ih)
        go (other e) ih = rw (only-skip c z zs e) ih

    from-level : (zs : List Z) → Level n (from key n zs)
    unfolding from
    from-level [] = level-none n
    from-level (z ∷ zs) = go (side n z) (from-level zs)
      where
        go : Side n z → Level n (from key n zs) → Level n (from key n (z ∷ zs))
        go (high e) ih = rw (from-take n z zs e) (level-more n z (from key n zs) (rw (le-leb _ _ e)) ih)
        go (low e) ih = rw (from-skip n z zs e) ih

    below-rises : (k : ℕ) (zs : List Z) → k ≤ n → AtMost n k (below key k zs) × Rises n (below key k zs)
    unfolding below
    below-rises zero zs h = (tt, tt)
    below-rises (suc k) zs h =
        let l : Level k (only key k zs) = only-level k zs (omega arith) in
        let ih : AtMost n k (below key k zs) × Rises n (below key k zs) = below-rises k zs (omega arith) in (
          most-append k (suc k) (below key k zs) (only key k zs) (omega arith) ih.0 (most-higher k (only key k zs) l.most),
          rises-append k (below key k zs) (only key k zs) ih.0 l.least ih.1 l.rises,
        )
      where
        most-higher : (m : ℕ) (ys : List Z) → AtMost n m ys → AtMost n (suc m) ys
        most-higher m [] a = tt
        most-higher m (y ∷ ys) a = (let q = a.0 in omega arith, most-higher m ys a.1)

    pub ordered-rises : (zs : List Z) → Rises n (ordered key n zs)
    unfolding ordered
    ordered-rises zs =
        let l : Level n (from key n zs) = from-level zs in
        let lower : AtMost n n (below key n zs) × Rises n (below key n zs) = below-rises n zs (omega arith) in
        rises-append n (below key n zs) (from key n zs) lower.0 l.least lower.1 l.rises

  -- ---- and it keeps each index's items, in their own order

  pub only-ordered : (c n : ℕ) (xs : List Z) → c < n → only key c (ordered key n xs) ≡ only key c xs
  unfolding ordered
  only-ordered c n xs h = only-append c (below key n xs) (from key n xs) ∙ ap₂ ◌++◌ (only_below c n xs h) (only-from c n xs h) ∙ append-nil _

  pub from-ordered : (n : ℕ) (xs : List Z) → from key n (ordered key n xs) ≡ from key n xs
  unfolding ordered
  from-ordered n xs = from-append n (below key n xs) (from key n xs) ∙ ap₂ ◌++◌ (from-below n n xs (omega arith)) (from-from n xs)

-- ---- what is made of each item, with the item's index

module _ {Z Y : Type 0} (key : Z → ℕ) (index : Y → ℕ) (f : Z → Y) (same : (z : Z) → index (f z) ≡ key z) where
  map-head : (t : Bool) (z : Z) (zs : List Z) (ys : List Y) → map f zs ≡ ys → map f (cond t (z ∷ zs) zs) ≡ cond t (f z ∷ ys) ys
  map-head true z zs ys e = ap (λ (l : List Y). f z ∷ l) e
  map-head false z zs ys e = e

  pub map-only : (c : ℕ) (zs : List Z) → map f (only key c zs) ≡ only index c (map f zs)
  unfolding only
  map-only c [] = refl
  map-only c (z ∷ zs) = rw (same z) (map-head (eqb (key z) c) z (only key c zs) (only index c (map f zs)) (map-only c zs))

  map-from : (n : ℕ) (zs : List Z) → map f (from key n zs) ≡ from index n (map f zs)
  unfolding from
  map-from n [] = refl
  map-from n (z ∷ zs) = rw (same z) (map-head (leb n (key z)) z (from key n zs) (from index n (map f zs)) (map-from n zs))

  map_below : (n : ℕ) (zs : List Z) → map f (below key n zs) ≡ below index n (map f zs)
  unfolding below
  map_below zero zs = refl
  map_below (suc k) zs = map-append f (below key k zs) (only key k zs) ∙ ap₂ ◌++◌ (map_below k zs) (map-only k zs)

  pub map-ordered : (n : ℕ) (zs : List Z) → map f (ordered key n zs) ≡ ordered index n (map f zs)
  unfolding ordered
  map-ordered n zs = map-append f (below key n zs) (from key n zs) ∙ ap₂ ◌++◌ (map_below n zs) (map-from n zs)
