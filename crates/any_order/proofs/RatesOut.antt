-- What `dynamic_block` answers after any items has the rates that the steps give (`rates-given`), and so have the crates (`rates-held`).
-- Assumes nothing.
use Prim.Native.Nat.{ℕ, ◌<◌}
use mathlib.Core.Path.{◌≡◌, refl, sym, ap, ap₂, ◌∙◌, subst}
use mathlib.Core.List.{List, ◌++◌, append_assoc}
use mathlib.Core.Bool.{Bool, true, false, not, cond, ◌&&◌}
use native.Mathlib.Omega.{arith}
use Rattle.std.specs.Prelude.{Result}
use Rattle.blocks.specs.Blocks.{temperature_rules, dynamic_body, WroteBlock}
use Rattle.blocks.specs.declared.Header.{Header}
use Rattle.crate_pass.specs.Crate.{is_rate_pass}
use Rattle.crate_pass.proofs.Entries.{begin-keeps-rates}
use Rattle.crate_pass.specs.declared.Crate.{Crate}
use Rattle.four_crates.specs.FourCrates.{crate_of, rates_of_first, rates_of}
use Rattle.board.specs.State.{crate_at, finished_rates}
use Rattle.board.specs.SentOut.{header_of, SendsDynamic}
use Rattle.board.specs.declared.Board.{Board}
use Rattle.board.proofs.RatePass.{idle-rates}
use Rattle.cells.specs.Order.{only}
use Rattle.any_order.specs.AnyOrder.{Item, item_crate, Begin, write, ping, rates, Accepted, start_of, kind_of, stored_block, word_of, begun_board, final}
use Rattle.any_order.specs.AnyOrder.{of_four, rates_before, all_done, rates_found, rates_held, rates_after}
use Rattle.any_order.proofs.Runs.{run-rates}
use Rattle.any_order.proofs.Begun.{none-under-way, crate_begun, runs-begun}
use Rattle.any_order.proofs.OneCrate.{final-is, crate-is, alone}
use Rattle.any_order.proofs.SentOut.{in-pass, header_is}
use Rattle.refusals.specs.declared.Refusal.{Refusal}

-- ---- of four crates

-- their rates, crate after crate
in-turn : (cs : List Crate) → rates_of cs ≡ of_four (λ c. (crate_of cs c).rates)
unfolding rates_of_first
in-turn cs =
    let own : ℕ → List ℕ = λ c. (crate_of cs c).rates in
    append_assoc (own 0 ++ own 1) (own 2) (own 3) ∙ append_assoc (own 0) (own 1) (own 2 ++ own 3)

of-four : (f h : ℕ → List ℕ) → ((c : ℕ) → c < 4 → f c ≡ h c) → of_four f ≡ of_four h
of-four f h same = ap₂ ◌++◌ (same 0 (omega arith)) (ap₂ ◌++◌ (same 1 (omega arith)) (ap₂ ◌++◌ (same 2 (omega arith)) (same 3 (omega arith))))

module _ (β : Board) (g : Begin) (a : Accepted β g) (xs : List Item) where
  abbrev last : Board
  last = final (start_of β g) xs

  -- a pass that is no rate pass leaves the rates
  rates-left : is_rate_pass (kind_of g) ≡ false → rates_of last.crates ≡ rates_of β.crates
  rates-left e = in-turn last.crates ∙ of-four _ _ same ∙ sym (in-turn β.crates)
    where
      same : (c : ℕ) → c < 4 → (crate_at last c).rates ≡ (crate_at β c).rates
      same c h =
          ap (λ (k : Crate). k.rates) (crate-is β g a xs c h)
          ∙ run-rates (kind_of g) e (stored_block β g) c (crate_begun β g c) (only item_crate c xs)
          (runs-begun (kind_of g) (word_of (stored_block β g) c) (crate_at β c)).fit
          ∙ begin-keeps-rates (kind_of g) e (word_of (stored_block β g) c) (crate_at β c)

  kind-is : last.kind ≡ kind_of g
  unfolding begun_board
  kind-is = ap (λ (γ : Board). γ.kind) (final-is β g a xs)

  before-is : last.rates ≡ rates_before β g
  unfolding begun_board
  before-is = ap (λ (γ : Board). γ.rates) (final-is β g a xs)

  finished : finished_rates last ≡ cond (is_rate_pass (kind_of g) && not (all_done β g xs)) (rates_before β g) (rates_of last.crates)
  unfolding finished_rates
  finished = rw (kind-is, before-is, in-pass β g a xs)

-- a rate pass fills them
rates-filled : (β : Board) (a : Accepted β rates) (xs : List Item) → rates_of (last β rates a xs).crates ≡ rates_found β rates xs
unfolding rates_found
rates-filled β a xs = in-turn (last β rates a xs).crates ∙ of-four _ _ (λ c h. (alone β rates a xs c h).rates refl)

pub rates-held : (β : Board) (g : Begin) (a : Accepted β g) (xs : List Item) → rates_of (final (start_of β g) xs).crates ≡ rates_held β g xs
rates-held β (write w) a xs = rates-left β (write w) a xs refl
rates-held β (ping w) a xs = rates-left β (ping w) a xs refl
rates-held β rates a xs = rates-filled β a xs

either : (done : Bool) (found before : List ℕ) → cond (true && not done) before found ≡ cond done found before
either true found before = refl
either false found before = refl

finished-is : (β : Board) (g : Begin) (a : Accepted β g) (xs : List Item) → finished_rates (final (start_of β g) xs) ≡ rates_after β g xs
finished-is β (write w) a xs =
    finished β (write w) a xs ∙ rates-held β (write w) a xs ∙ sym (idle-rates β (none-under-way β (write w) a))
finished-is β (ping w) a xs = finished β (ping w) a xs ∙ rates-held β (ping w) a xs ∙ sym (idle-rates β (none-under-way β (ping w) a))
finished-is β rates a xs =
    finished β rates a xs
    ∙ ap (λ (found : List ℕ). cond (true && not (all_done β rates xs)) (finished_rates β) found) (rates-held β rates a xs)
    ∙ either (all_done β rates xs) (rates_found β rates xs) (finished_rates β)

-- the on-time is that before the pass
on-time-begun : (β : Board) (g : Begin) (cs : List Crate) → (begun_board β g cs).run.on_time ≡ β.run.on_time
unfolding begun_board
on-time-begun β (write w) cs = refl
on-time-begun β (ping w) cs = refl
on-time-begun β rates cs = refl

pub rates-given : (β : Board) (g : Begin) (a : Accepted β g) (xs : List Item) (t out : List ℕ) (r : Result ℕ Refusal) (after : List ℕ)
    → SendsDynamic (final (start_of β g) xs) t out r after
    → WroteBlock (temperature_rules t) 487 (header_of β) (dynamic_body β.run.on_time t (rates_after β g xs)) out r after
rates-given β g a xs t out r after w =
    let own = temperature_rules t in
    let end = last β g a xs in
    let on-time : end.run.on_time ≡ β.run.on_time =
    ap (λ (γ : Board). γ.run.on_time) (final-is β g a xs) ∙ on-time-begun β g _ in
    let body : dynamic_body end.run.on_time t (finished_rates end) ≡ dynamic_body β.run.on_time t (rates_after β g xs) =
    ap₂ (λ (n : ℕ) (l : List ℕ). dynamic_body n t l) on-time (finished-is β g a xs) in
    subst (λ (b : List ℕ). WroteBlock own 487 (header_of β) b out r after) body
    (subst (λ (h : Header). WroteBlock own 487 h (dynamic_body end.run.on_time t (finished_rates end)) out r after) (header_is β g a xs) w.block)
