-- An accepted write, ping or begin of a rate pass begins the pass that it says (`start_is`), on each of the four crates (`crate-begun`), while no other
-- pass is under way (`none-under-way`), and a run is on as before (`runs-as-before`).
-- Assumes nothing.
use Prim.Native.Nat.{ℕ, zero, suc, ◌<◌}
use mathlib.Core.Path.{◌≡◌, refl, sym, ap, ◌∙◌, subst}
use mathlib.Core.List.{List, [], ◌∷◌}
use mathlib.Core.Bool.{Bool, true, false, not, ◌&&◌, cond}
use native.Mathlib.Omega.{arith}
use lib.ListN.{length, get_or}
use lib.Dec.{ltb}
use Rattle.refusals.specs.Tables.{given}
use Rattle.refusals.proofs.Tables.{given≢refused}
use Rattle.commands.specs.declared.Command.{Command}
use Rattle.commands.specs.declared.Command.TheVariants.{Write, Ping}
use Rattle.acceptance.specs.Acceptance.{not_now}
use Rattle.acceptance.specs.declared.Status.{Status}
use Rattle.run.specs.Run.{is_running}
use Rattle.crate_pass.specs.Crate.{next_board, first_code, sent_at, begun_crate}
use Rattle.crate_pass.specs.declared.PassKind.{PassKind}
use Rattle.crate_pass.specs.declared.Crate.{Crate}
use Rattle.four_crates.specs.FourCrates.{no_crate, in_pass, begun_all}
use Rattle.command_reader.specs.Reading as reading
use Rattle.acceptance.proofs.Deciding.{obeyed-now, obeyed-read}
use Rattle.board.specs.State.{crate_at, status_of, with_crates}
use Rattle.board.specs.Commands.{board_answer, written, pinged, after_command}
use Rattle.board.specs.RatePass.{rates_begun, begin_answer, after_begin}
use Rattle.board.proofs.RatePass.{begin-refused}
use Rattle.board.specs.declared.Board.{Board}
use Rattle.any_order.specs.Steps.{Step, step, steps, Pass, first}
use Rattle.any_order.specs.AnyOrder.{Begin, write, ping, rates, Accepted, start_of, kind_of, stored_block, word_of, runs_as_before, begun_board, step_of}
use Rattle.any_order.proofs.Places.{first-at, begun-todo}
use Rattle.any_order.proofs.Follows.{view_first, view-begun, fit-begun}
use Rattle.any_order.proofs.Frames.{bound-begun}
use Rattle.any_order.proofs.Runs.{Runs}

-- ---- the state

-- the four crates as the pass begins
abbrev pub begun_crates : Board → Begin → List Crate
begun_crates β g =
    begun_all
    (kind_of g)
    (word_of (stored_block β g) 0 ∷ word_of (stored_block β g) 1 ∷ word_of (stored_block β g) 2 ∷ word_of (stored_block β g) 3 ∷ [])
    β.crates

-- the board in that pass, whose crates do not matter
abbrev pub base : Board → Begin → Board
base β g = begun_board β g []

pub base-with : (β : Board) (g : Begin) (cs : List Crate) → with_crates (base β g) cs ≡ begun_board β g cs
unfolding with_crates begun_board
base-with β g cs = refl

-- the block that the reader hands back is the command's
block_read : (β : Board) (w : List ℕ) → Accepted β (write w) → stored_block β (write w) ≡ reading.block_of w
block_read β w e = rw (obeyed-read w (status_of β) Write e)

pub start_is : (β : Board) (g : Begin) → Accepted β g → start_of β g ≡ begun_board β g (begun_crates β g)
unfolding begun_board written pinged rates_begun
start_is β (write w) e = ap (after_command β (reading.block_of w)) e ∙ ap (written β) (sym (block_read β w e))
start_is β (ping w) e = ap (after_command β (reading.block_of w)) e
start_is β rates e = ap (after_begin β) e

-- a command that asks for an idle board finds no run on, and no pass under way
idle-still : (running pass : Bool) → not (not running && not pass) ≡ false → (running ≡ false) × (pass ≡ false)
idle-still true pass e = absurd (let z : ◌≡◌ {A = ℕ} 0 1 = cc in omega arith)
idle-still false true e = absurd (let z : ◌≡◌ {A = ℕ} 0 1 = cc in omega arith)
idle-still false false e = (refl, refl)

pub idle-before : (β : Board) (w : List ℕ) (c : Command) → ((s : Status) → not_now c s ≡ not s.idle) → board_answer β w ≡ given c
    → (is_running β.run ≡ false) × (in_pass β.crates ≡ false)
idle-before β w c asks e = idle-still (is_running β.run) (in_pass β.crates) (sym (asks (status_of β)) ∙ obeyed-now w (status_of β) c e)

-- a begin that is accepted finds no pass under way
begin-before : (β : Board) → begin_answer β ≡ given tt → in_pass β.crates ≡ false
begin-before β e = go (in_pass β.crates) refl
  where
    go : (t : Bool) → in_pass β.crates ≡ t → in_pass β.crates ≡ false
    go true q = absurd (given≢refused (sym e ∙ begin-refused β q))
    go false q = q

pub none-under-way : (β : Board) (g : Begin) → Accepted β g → in_pass β.crates ≡ false
none-under-way β (write w) e = (idle-before β w Write (λ s. refl) e).1
none-under-way β (ping w) e = (idle-before β w Ping (λ s. refl) e).1
none-under-way β rates e = begin-before β e

-- ---- each crate

module _ (β : Board) (g : Begin) where
  pub four : length (begun_crates β g) ≡ 4
  unfolding begun_all
  four = refl

  abbrev pub crate_begun : ℕ → Crate
  crate_begun c = begun_crate (kind_of g) (word_of (stored_block β g) c) (crate_at β c)

  pub crate-begun : (c : ℕ) → c < 4 → get_or (begun_crates β g) c no_crate ≡ crate_begun c
  unfolding begun_all
  crate-begun zero h = refl
  crate-begun (suc zero) h = refl
  crate-begun (suc (suc zero)) h = refl
  crate-begun (suc (suc (suc zero))) h = refl
  crate-begun (suc (suc (suc (suc c)))) h = absurd (omega arith)

-- it stands for the pass that begins, and its number is that of the first frame
one-or-none : (t : Bool) (s : Step) → cond t 1 0 ≡ length (cond t (s ∷ []) [])
one-or-none true s = refl
one-or-none false s = refl

pub sent-begun : (kind : PassKind) (w : ℕ) (k : Crate) → (begun_crate kind w k).sent ≡ length (first (steps kind w))
unfolding begun_crate sent_at
sent-begun kind w k =
    one-or-none (ltb (next_board kind w 0) 10) (step (next_board kind w 0) (first_code kind))
    ∙ ap length (first-at kind w (next_board kind w 0) (first_code kind) ∙ ap first (begun-todo kind w))

pub runs-begun : (kind : PassKind) (w : ℕ) (k : Crate) → Runs kind w (begun_crate kind w k)
runs-begun kind w k =
    let first-is : step_of (begun_crate kind w k) ≡ first (steps kind w) =
    view_first kind w (begun_crate kind w k) ∙ ap (λ (p : Pass). first p.todo) (view-begun kind w k) in
    record {
      fit = fit-begun kind w k;
      bound = rw (view-begun kind w k, sent-begun kind w k) (bound-begun kind (steps kind w));
      one = rw (first-is, sent-begun kind w k) (omega arith);
    }

-- ---- a board in a pass that has just begun, on four crates

pub record Begun (γ : Board) : Type 0 where
  pub four : length γ.crates ≡ 4
  pub runs : (c : ℕ) → c < 4 → Runs γ.kind (word_of γ.block c) (crate_at γ c)

-- whether a run is on
pub runs-as-before : (β : Board) (g : Begin) → Accepted β g → (cs : List Crate) → is_running (begun_board β g cs).run ≡ runs_as_before β g
unfolding begun_board
runs-as-before β (write w) a cs = (idle-before β w Write (λ s. refl) a).0
runs-as-before β (ping w) a cs = (idle-before β w Ping (λ s. refl) a).0
runs-as-before β rates a cs = refl

begun-board : (β : Board) (g : Begin) → Accepted β g → Begun (begun_board β g (begun_crates β g))
unfolding begun_board
begun-board β g a =
    record {
      four = four β g;
      runs = λ c h. let w = word_of (stored_block β g) c in
          subst (Runs (kind_of g) w) (sym (crate-begun β g c h)) (runs-begun (kind_of g) w (crate_at β c));
    }

pub begun-after : (β : Board) (g : Begin) → Accepted β g → Begun (start_of β g)
begun-after β g a = subst Begun (sym (start_is β g a)) (begun-board β g a)
