-- Writes, pings and the begin of a rate pass begin a pass, replies and time-ups move one crate in it, and all keep what holds.
-- Assumes nothing.
use Prim.Native.Nat.{ℕ, zero, suc, ◌<◌, ◌≤◌}
use mathlib.Core.Path.{◌≡◌, refl, sym, ◌∙◌, subst}
use mathlib.Core.Bool.{Bool, true, false, not, ◌&&◌, ◌||◌}
use mathlib.Core.List.{List}
use native.Mathlib.Omega.{arith}
use lib.Dec.{ltb, eqb}
use lib.ListN.{length, get_or, set, length-set}
use lib.Seq.{get_or-set_same, get_or-set_other}
use borrow.Author.Tests.{ltb-true, ltb-false, le-ltb, eqb-true, eqb-false}
use Rattle.refusals.specs.Tables.{Answer, given, refused}
use Rattle.numbers.specs.Numbers.{id_limit}
use Rattle.bounds.specs.Bounds.{bound_of, lowest_above, RatesKept}
use Rattle.bounds.proofs.Lowest.{lowest-before}
use Rattle.commands.specs.declared.Command.{Command}
use Rattle.commands.specs.declared.Command.TheVariants.{Write, Ping}
use Rattle.steps.specs.declared.Judged.{Judged}
use Rattle.steps.proofs.Carried.{ping-below, rates-below}
use Rattle.run.specs.Run.{is_running}
use Rattle.run.specs.Invariant.{RunInvariant}
use Rattle.run.specs.declared.Freshness.TheVariants.{Fresh}
use Rattle.run.proofs.Invariant.{sound-freshness}
use Rattle.crate_pass.specs.Crate.{is_done, is_rate_pass, served_answer}
use Rattle.crate_pass.specs.Invariant.{CrateInvariant}
use Rattle.crate_pass.specs.declared.PassKind.{PassKind}
use Rattle.crate_pass.specs.declared.PassKind.TheVariants.{Reprogramming, Rates}
use Rattle.crate_pass.specs.declared.Crate.{Crate}
use Rattle.crate_pass.proofs.Invariant.{sound-begun, sound-after}
use Rattle.crate_pass.proofs.Answered.{crate_after}
use Rattle.four_crates.specs.FourCrates.{no_crate, crate_of, in_pass, begun_all}
use Rattle.board.specs.State.{crate_at, active_words, with_crates}
use Rattle.command_reader.specs.Reading.{block_of}
use Rattle.board.specs.Commands.{board_answer, written, pinged, after_command}
use Rattle.board.specs.SlowControl.{frame_at, board_replied}
use Rattle.board.specs.RatePass.{rates_begun, begin_answer, after_begin, board_begun}
use Rattle.board.specs.declared.Board.{Board}
use Rattle.any_order.specs.Steps.{Event, Request}
use Rattle.any_order.specs.AnyOrder.{write, ping, rates, word_of, judged_on, most_frames}
use Rattle.any_order.proofs.Begun.{Begun, idle-before, begun-after}
use Rattle.any_order.proofs.RatesByBoard.{twelve-judged}
use Rattle.board.proofs.Serving.{board-low, board-high}
use Rattle.any_order.proofs.Served.{crate_next, crate_step}
use Rattle.any_order.proofs.Runs.{Runs, step-runs}
use Rattle.reachable.specs.Reachable.{FlagsInvariant, in_other_pass}
use Rattle.reachable.proofs.Accepted.{block-length, block_within}
use Rattle.reachable.proofs.OneCall.{false≢true}
use Rattle.reachable.proofs.Rates.{finished-sound}
use Rattle.reachable.proofs.Holding.{Holds, runs_number, runs-first}

-- ---- a pass that has just begun

-- each crate is sound
sound-all : (last kind : PassKind) (words : List ℕ) (cs : List Crate) → ((c : ℕ) → c < 4 → CrateInvariant last (crate_of cs c))
    → (c : ℕ) → c < 4 → CrateInvariant kind (crate_of (begun_all kind words cs) c)
unfolding begun_all
sound-all last kind words cs s zero h = sound-begun last kind (get_or words 0 0) (crate_of cs 0) (s 0 (omega arith))
sound-all last kind words cs s (suc zero) h = sound-begun last kind (get_or words 1 0) (crate_of cs 1) (s 1 (omega arith))
sound-all last kind words cs s (suc (suc zero)) h = sound-begun last kind (get_or words 2 0) (crate_of cs 2) (s 2 (omega arith))
sound-all last kind words cs s (suc (suc (suc zero))) h = sound-begun last kind (get_or words 3 0) (crate_of cs 3) (s 3 (omega arith))
sound-all last kind words cs s (suc (suc (suc (suc c)))) h = absurd (omega arith)

-- what the begin of a pass stores holds, with what a pass that has begun has
record Stored (γ : Board) : Type 0 where
  run : RunInvariant γ.run
  length-block : length γ.block ≡ 436
  within : lowest_above bound_of 0 γ.block ≡ 436
  active : FlagsInvariant γ.active
  length-rates : length γ.rates ≡ 480
  rates : RatesKept γ.rates
  apart : (is_running γ.run && in_other_pass γ) ≡ false
  crates : (c : ℕ) → c < 4 → CrateInvariant γ.kind (crate_at γ c)

holds-begun : (β γ : Board) → Holds β → γ.identity ≡ β.identity → Begun γ → Stored γ → Holds γ
holds-begun β γ h e b s =
    record {
      reaches = record {
        id = rw e h.reaches.id;
        firmware = rw e h.reaches.firmware;
        run = s.run;
        length-block = s.length-block;
        within = s.within;
        active = s.active;
        length-rates = s.length-rates;
        rates = s.rates;
        four = b.four;
        number = λ n m. runs_number γ.kind (word_of γ.block n) (crate_at γ n) (b.runs n m);
        first = λ n m. runs-first γ.kind (word_of γ.block n) (crate_at γ n) (b.runs n m);
        crates = s.crates;
        apart = s.apart;
      };
      follows = λ n m d. b.runs n m;
    }

-- the state after an accepted begin of a pass
begun-write : (β : Board) (w : List ℕ) → board_answer β w ≡ given Write → Begun (written β (block_of w))
begun-write β w e = subst (λ (a : Answer Command). Begun (after_command β (block_of w) a)) e (begun-after β (write w) e)

begun-ping : (β : Board) (w : List ℕ) → board_answer β w ≡ given Ping → Begun (pinged β)
begun-ping β w e = subst (λ (a : Answer Command). Begun (after_command β (block_of w) a)) e (begun-after β (ping w) e)

begun-rates : (β : Board) → begin_answer β ≡ given tt → Begun (rates_begun β)
begun-rates β e = subst (λ (a : Answer Unit). Begun (after_begin β a)) e (begun-after β rates e)

pub holds-write : (β : Board) (w : List ℕ) → board_answer β w ≡ given Write → Holds β → Holds (written β (block_of w))
unfolding written
holds-write β w e h =
    let k = h.reaches in
    holds-begun β (written β (block_of w)) h refl (begun-write β w e)
    (record {
      run = sound-freshness β.run Fresh k.run;
      length-block = block-length β w e;
      within = block_within β w e;
      active = k.active;
      length-rates = k.length-rates;
      rates = k.rates;
      apart = rw (idle-before β w Write (λ s. refl) e).0;
      crates = sound-all β.kind Reprogramming (active_words (block_of w)) β.crates k.crates;
    })

-- the words of active flags, 0x1B0 to 0x1B3, are within their bounds
flags-within : (block : List ℕ) → lowest_above bound_of 0 block ≡ 436 → FlagsInvariant (active_words block)
unfolding bound_of
flags-within block e = record { four = refl; within = λ c. let l = at c in omega arith }
  where
    at : (c : ℕ) → get_or (active_words block) c 0 ≤ 0x03FF
    at zero = let l = lowest-before bound_of 0 block 0x1B0 (omega arith) in omega arith
    at (suc zero) = let l = lowest-before bound_of 0 block 0x1B1 (omega arith) in omega arith
    at (suc (suc zero)) = let l = lowest-before bound_of 0 block 0x1B2 (omega arith) in omega arith
    at (suc (suc (suc zero))) = let l = lowest-before bound_of 0 block 0x1B3 (omega arith) in omega arith
    at (suc (suc (suc (suc c)))) = omega arith

pub holds-ping : (β : Board) (w : List ℕ) → board_answer β w ≡ given Ping → Holds β → Holds (pinged β)
unfolding pinged
holds-ping β w e h =
    let k = h.reaches in
    holds-begun β (pinged β) h refl (begun-ping β w e)
    (record {
      run = k.run;
      length-block = k.length-block;
      within = k.within;
      active = flags-within β.block k.within;
      length-rates = k.length-rates;
      rates = k.rates;
      apart = rw (idle-before β w Ping (λ s. refl) e).0;
      crates = sound-all β.kind PassKind.Ping (active_words β.block) β.crates k.crates;
    })

and-true : (a : Bool) → (a && true) ≡ a
and-true true = refl
and-true false = refl

and_none : (a b : Bool) → (a && (b && false)) ≡ false
and_none true true = refl
and_none true false = refl
and_none false b = refl

holds-rates : (β : Board) → begin_answer β ≡ given tt → Holds β → Holds (rates_begun β)
unfolding rates_begun
holds-rates β e h =
    let k = h.reaches in
    let own = finished-sound β k in
    holds-begun β (rates_begun β) h refl (begun-rates β e)
    (record {
      run = k.run;
      length-block = k.length-block;
      within = k.within;
      active = k.active;
      length-rates = own.0;
      rates = own.1;
      apart = and_none (is_running β.run) (in_pass (rates_begun β).crates);
      crates = sound-all β.kind Rates (active_words β.block) β.crates k.crates;
    })

pub holds-begin : (β : Board) → Holds β → Holds (board_begun β)
holds-begin β h = go (begin_answer β) refl
  where
    go : (a : Answer Unit) → begin_answer β ≡ a → Holds (board_begun β)
    go (given tt) e = rw e (holds-rates β e h)
    go (refused n p) e = rw e h

-- ---- replies and time-ups

all_true : (d₀ d₁ d₂ d₃ : Bool) → (not d₀ || not d₁ || not d₂ || not d₃) ≡ false → (d₀ ≡ true) × (d₁ ≡ true) × (d₂ ≡ true) × (d₃ ≡ true)
all_true true true true true e = (refl, refl, refl, refl)
all_true true true true false e = false≢true (sym e)
all_true true true false d₃ e = false≢true (sym e)
all_true true false d₂ d₃ e = false≢true (sym e)
all_true false d₁ d₂ d₃ e = false≢true (sym e)

-- no pass is under way when all are done
pub all_done_lem : (cs : List Crate) → in_pass cs ≡ false → (c : ℕ) → c < 4 → is_done (crate_of cs c) ≡ true
unfolding in_pass
all_done_lem cs e c h = go c h (all_true (is_done (crate_of cs 0)) (is_done (crate_of cs 1)) (is_done (crate_of cs 2)) (is_done (crate_of cs 3)) e)
  where
    go : (c : ℕ) → c < 4
        → (is_done (crate_of cs 0) ≡ true) × (is_done (crate_of cs 1) ≡ true) × (is_done (crate_of cs 2) ≡ true) × (is_done (crate_of cs 3) ≡ true)
        → is_done (crate_of cs c) ≡ true
    go zero h t = t.0
    go (suc zero) h t = t.1
    go (suc (suc zero)) h t = t.2
    go (suc (suc (suc zero))) h t = t.3
    go (suc (suc (suc (suc c)))) h t = absurd (omega arith)

-- so no run is on while a frame of a reprogramming or a ping is outstanding, and a reply leaves it so
pass-apart : (running rate : Bool) (cs ds : List Crate) (c : ℕ) → c < 4 → is_done (crate_of cs c) ≡ false
    → (running && (in_pass cs && not rate)) ≡ false → (running && (in_pass ds && not rate)) ≡ false
pass-apart running true cs ds c h d a = and_none running (in_pass ds)
pass-apart false false cs ds c h d a = refl
pass-apart true false cs ds c h d a = false≢true (sym d ∙ all_done_lem cs (sym (and-true (in_pass cs)) ∙ a) c h)

-- what holds of the crate k, and of the others as they were, holds of the crates with k for crate c
pub at_set : (cs : List Crate) (c : ℕ) (k : Crate) → c < length cs
    → (P : ℕ → Crate → Type 0) → P c k → (n : ℕ) → P n (crate_of cs n) → P n (crate_of (set cs c k) n)
at_set cs c k l P new n old = go (eqb c n) refl
  where
    go : (t : Bool) → eqb c n ≡ t → P n (crate_of (set cs c k) n)
    go true e =
        let s : c ≡ n = eqb-true c n e in
        subst (λ m. P m (crate_of (set cs c k) m)) s (subst (P c) (sym (get_or-set_same cs c k no_crate l)) new)
    go false e = subst (P n) (sym (get_or-set_other cs c n k no_crate (λ q. eqb-false c n e (sym q)))) old

-- the crate c moved on in its pass
holds-crate : (β : Board) (c : ℕ) (k : Crate) → c < 4 → is_done (crate_at β c) ≡ false → Runs β.kind (word_of β.block c) k → CrateInvariant β.kind k
    → Holds β → Holds (with_crates β (set β.crates c k))
unfolding with_crates
holds-crate β c k h d r sound s =
    let q = s.reaches in
    let l : c < length β.crates = let f = q.four in omega arith in
    record {
      reaches = record {
        id = q.id;
        firmware = q.firmware;
        run = q.run;
        length-block = q.length-block;
        within = q.within;
        active = q.active;
        length-rates = q.length-rates;
        rates = q.rates;
        four = length-set β.crates c k ∙ q.four;
        number = λ n m.
            at_set β.crates c k l (λ i j. j.sent ≤ most_frames β.kind (word_of β.block i))
            (runs_number β.kind (word_of β.block c) k r) n (q.number n m);
        first = λ n m.
            at_set β.crates c k l (λ i j. j.board < 10 → 1 ≤ j.sent) (runs-first β.kind (word_of β.block c) k r) n (q.first n m);
        crates = λ n m. at_set β.crates c k l (λ i j. CrateInvariant β.kind j) sound n (q.crates n m);
        apart = pass-apart (is_running β.run) (is_rate_pass β.kind) β.crates (set β.crates c k) c h d q.apart;
      };
      follows = λ n m. at_set β.crates c k l (λ i j. is_done j ≡ false → Runs β.kind (word_of β.block i) j) (λ e. r) n (s.follows n m);
    }

pub replied-done : (β : Board) (c : ℕ) (h : Judged) (lent : List ℕ) → c < 4 → is_done (crate_at β c) ≡ true → board_replied β c h lent ≡ β
unfolding board_replied served_answer
replied-done β c h lent l d = let m : c ≤ 3 = omega arith in rw (le-ltb _ _ m, d)

-- the crate after a reply or a time-up on it
abbrev pub next : Board → ℕ → Event → List ℕ → Crate
next β c e lent = crate_after β.kind (word_of β.block c) (crate_at β c) (judged_on β c e) lent

runs-next : (β : Board) (c : ℕ) (e : Event) (lent : List ℕ) → Runs β.kind (word_of β.block c) (crate_at β c)
    → Runs β.kind (word_of β.block c) (next β c e lent)
unfolding crate_step crate_next frame_at
runs-next β c e lent r = step-runs β.kind β.block c (crate_at β c) (Request.hand_in e, lent) r

-- a good reply to a ping carries a DNA that is kept, and one with rates twelve words that are
event-below : (β : Board) (c : ℕ) (e : Event) → (crate_at β c).code ≡ 4 → (judged_on β c e).good ≡ true → (judged_on β c e).dna < id_limit
unfolding frame_at
event-below β c (Event.reply bytes) p g = ping-below β.block c (crate_at β c).board (crate_at β c).code bytes g p
event-below β c Event.time_up p g = false≢true g

event-rates : (β : Board) (c : ℕ) (e : Event) → (crate_at β c).code ≡ 5 → (judged_on β c e).good ≡ true → RatesKept (judged_on β c e).rates
unfolding frame_at
event-rates β c (Event.reply bytes) p g = rates-below β.block c (crate_at β c).board (crate_at β c).code bytes g p
event-rates β c Event.time_up p g = false≢true g

pub holds-event : (β : Board) (c : ℕ) (e : Event) (lent : List ℕ) → Holds β → Holds (board_replied β c (judged_on β c e) lent)
holds-event β c e lent s = go (ltb c 4) refl (is_done (crate_at β c)) refl
  where
    h : Judged
    h = judged_on β c e

    go : (t : Bool) → ltb c 4 ≡ t → (u : Bool) → is_done (crate_at β c) ≡ u → Holds (board_replied β c h lent)
    go false p u q = rw (board-high β c h lent (ltb-false _ _ p)) s
    go true p true q = rw (replied-done β c h lent (ltb-true _ _ p) q) s
    go true p false q =
        let l : c < 4 = ltb-true _ _ p in
        let sound =
        sound-after β.kind (word_of β.block c) (crate_at β c) h (event-below β c e) (twelve-judged (frame_at β c) e) (event-rates β c e) lent
        (s.reaches.crates c l) in
        subst Holds (sym (board-low β c h lent (omega arith)))
        (holds-crate β c (next β c e lent) l q (runs-next β c e lent (s.follows c l q)) sound s)
