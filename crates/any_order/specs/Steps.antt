-- 01, Slow control, as 02, d and i change it: the steps of a pass on one crate, as the papers word them. Nothing here speaks of how the board keeps its
-- place; which boards a pass serves, how often a step is sent and what the list says of a board are said here by themselves, and not taken from what
-- the code's contracts cite. What a reply says to a frame, good or not and with which DNA, CRC error byte and rates, is `judged_reply`, which the
-- contracts cite too.
use Rattle.std.specs.Prelude.{ℕ, zero, suc, ◌+◌, ◌*◌, ◌/◌, ◌%◌, ◌^◌, Bool, true, false, cond, List, [], ◌∷◌, ◌++◌, map, ltb, eqb, length, set, drop, replicate}
use Rattle.refusals.specs.Tables.{Answer, given, refused}
use Rattle.numbers.specs.Numbers.{digits}
use Rattle.steps.specs.Steps.{judged_reply, no_reply}
use Rattle.steps.specs.declared.Judged.{Judged}
use Rattle.crate_pass.specs.declared.PassKind.{PassKind}
use Rattle.crate_pass.specs.declared.PassKind.TheVariants.{Reprogramming, Ping, Rates}
use Rattle.crate_pass.specs.declared.Outcome.{Outcome}
use Rattle.crate_pass.specs.declared.Outcome.TheVariants.{Good, Again, BoardFailed}

-- ---- the steps

-- a step: the frame of this code to this board
pub record Step : Type 0 where
  pub board : ℕ
  pub code : ℕ

abbrev pub step : ℕ → ℕ → Step
step b c = record { board = b; code = c }

-- "In a reprogramming pass each crate serves its active boards ..; in a ping, all ten"; 02, i: "a rate pass over the active boards". Of the word w of
-- active flags "bit b for board b"
abbrev pub is_served : PassKind → ℕ → ℕ → Bool
is_served Reprogramming w b = eqb (w / 2 ^ b % 2) 1
is_served Ping w b = true
is_served Rates w b = eqb (w / 2 ^ b % 2) 1

-- "with codes 1, 2, 3; in a ping .. with code 4"; 02, i: "a rate pass .. with code 5"
abbrev pub board_steps : PassKind → ℕ → List Step
board_steps Reprogramming b = step b 1 ∷ step b 2 ∷ step b 3 ∷ []
board_steps Ping b = step b 4 ∷ []
board_steps Rates b = step b 5 ∷ []

-- the steps of n boards from b on: those of the boards that the pass serves, "in rising order"
unfoldable pub steps_from : PassKind → ℕ → ℕ → ℕ → List Step
steps_from kind w zero b = []
steps_from kind w (suc n) b = cond (is_served kind w b) (board_steps kind b) [] ++ steps_from kind w n (suc b)

-- the steps of a pass over a crate's ten boards
abbrev pub steps : PassKind → ℕ → List Step
steps kind w = steps_from kind w 10 0

-- how many of n boards from b on the pass serves
unfoldable pub served_from : PassKind → ℕ → ℕ → ℕ → ℕ
served_from kind w zero b = 0
served_from kind w (suc n) b = cond (is_served kind w b) 1 0 + served_from kind w n (suc b)

-- ---- what comes in

-- a reply's bytes, of any length, or a time-up
pub data Event : Type 0 where
  reply : List ℕ → Event
  time_up : Event

-- what it says as the answer to a frame
abbrev pub judged : List ℕ → Event → Judged
judged frame (reply bytes) = judged_reply frame bytes
judged frame time_up = no_reply

-- 02, d: "hand in a reply or a time-up", and "the first frame of a pass has its own fetch"
pub data Request : Type 0 where
  hand_in : Event → Request
  fetch : Request

-- "each item brings its own lent bytes, their number and what they held included"
abbrev pub Lending : Type 0
Lending = Request × List ℕ

-- ---- what a pass finds of a board

-- nothing; a ping, how many calls it needed, its DNA, and its CRC error byte; a rate pass, its twelve words
pub data Found : Type 0 where
  nothing : Found
  found : ℕ → ℕ → ℕ → Found
  rated : List ℕ → Found

-- "six for each board: address + 256 × calls needed, DNA in four, CRC error byte .. A board that failed the ping has six zeros"; "A board's
-- address is 16c + b"
abbrev pub six_words : ℕ → ℕ → Found → List ℕ
six_words c b nothing = replicate 6 0
six_words c b (rated words) = replicate 6 0
six_words c b (found calls dna errors) = (16 * c + b + 256 * calls) ∷ digits 65536 4 dna ++ (errors ∷ [])

-- the words of the boards of crate c, the first of which is board b
abbrev pub words_from : ℕ → ℕ → List Found → List ℕ
words_from c b [] = []
words_from c b (f ∷ fs) = six_words c b f ++ words_from c (suc b) fs

-- "boards that answered"
abbrev pub how_many : List Found → ℕ
how_many [] = 0
how_many (nothing ∷ fs) = how_many fs
how_many (rated words ∷ fs) = how_many fs
how_many (found calls dna errors ∷ fs) = suc (how_many fs)

-- 02, i: the twelve words of a board, and those of the boards, one after the other
abbrev pub twelve_words : Found → List ℕ
twelve_words nothing = replicate 12 0
twelve_words (found calls dna errors) = replicate 12 0
twelve_words (rated words) = words

abbrev pub rates_from : List Found → List ℕ
rates_from [] = []
rates_from (f ∷ fs) = twelve_words f ++ rates_from fs

-- what is found of a board before it has answered: nothing; 02, i: "Inactive or failed boards have zeros"
abbrev pub unanswered : PassKind → Found
unanswered Reprogramming = nothing
unanswered Ping = nothing
unanswered Rates = rated (replicate 12 0)

-- ---- a pass

-- what is left to do, and what came of the rest
pub record Pass : Type 0 where
  -- the steps left: "One frame is outstanding", the first one's
  pub todo : List Step
  -- how many sends of that one failed
  pub tries : ℕ
  -- the steps whose third send failed, in the order in which they did: that of their boards
  pub failed : List Step
  -- what was found of each of the ten boards
  pub boards : List Found
  -- "the accepted replies and time-ups of this pass"
  pub counted : ℕ

abbrev pub pass : List Step → ℕ → List Step → List Found → ℕ → Pass
pass todo tries failed boards counted = record { todo = todo; tries = tries; failed = failed; boards = boards; counted = counted }

-- the steps ss as they begin: no failed send, no failure record, "A ping clears the list as it begins", and no board has answered
abbrev pub begun : PassKind → List Step → Pass
begun kind ss = pass ss 0 [] (replicate 10 (unanswered kind)) 0

-- what a request that is not refused gets: an outcome, or the first frame
pub data Given : Type 0 where
  outcome : Outcome → Given
  first_frame : Given

-- what an item gets: an answer, what its lent bytes then hold, and the frame that is sent then, one or none, as bytes
pub record Result : Type 0 where
  pub answer : Answer Given
  pub bytes : List ℕ
  pub frames : List (List ℕ)

-- "No refusal changes the state or lent memory"
abbrev pub refusal : ℕ → List ℕ → Result
refusal n lent = record { answer = refused n 0; bytes = lent; frames = [] }

-- the outstanding step, where there is one
abbrev pub first : List Step → List Step
first [] = []
first (s ∷ ss) = s ∷ []

abbrev pub none : List Step → Bool
none [] = true
none (s ∷ ss) = false

-- the steps of other boards than b
unfoldable pub others : ℕ → List Step → List Step
others b [] = []
others b (s ∷ ss) = cond (eqb s.board b) (others b ss) (s ∷ others b ss)

-- after a good reply to the step s, which so many sends before had failed: a ping's reply says what the board is, one with rates what it counted
unfoldable pub found_by : Step → ℕ → Judged → List Found → List Found
found_by s tries h boards =
    cond (eqb s.code 4)
    (set boards s.board (found (tries + 1) h.dna h.crc_errors))
    (cond (eqb s.code 5) (set boards s.board (rated h.rates)) boards)

-- "the next frame, or word that the crate is done and the bytes untouched": a frame in the first 28 lent bytes, or none
abbrev pub handed_over : List (List ℕ) → List ℕ → List ℕ
handed_over [] lent = lent
handed_over (f ∷ fs) lent = f ++ drop 28 lent

-- "19 whenever fewer than 28 bytes are lent"
abbrev pub too_few : List ℕ → Bool
too_few lent = ltb (length lent) 28

-- What follows is over `frame`, the bytes of a step's frame.
-- An outcome "with whether the crate is done", and the frame then outstanding
abbrev pub says : (Step → List ℕ) → (Bool → Outcome) → List ℕ → Pass → Result × Pass
says frame o lent p = (
  record {
    answer = given (outcome (o (none p.todo)));
    bytes = handed_over (map frame (first p.todo)) lent;
    frames = map frame (first p.todo);
  },
  p,
)

-- "A good reply moves to the next step. A bad reply, or a time-up, sends again; after the third send of a step fails, the board gets a
-- failure record and its other steps are dropped." 12: nothing outstanding there; then 19, and it "is then not counted"
unfoldable pub serve_to : (Step → List ℕ) → Event → List ℕ → Pass → List Step → Result × Pass
serve_to frame e lent p [] = (refusal 12 lent, p)
serve_to frame e lent p (s ∷ ss) =
    cond (too_few lent)
    (refusal 19 lent, p)
    (cond (judged (frame s) e).good
    (says frame Good lent (pass ss 0 p.failed (found_by s p.tries (judged (frame s) e) p.boards) (p.counted + 1)))
    (cond (ltb p.tries 2)
    (says frame Again lent (pass (s ∷ ss) (p.tries + 1) p.failed p.boards (p.counted + 1)))
    (says frame BoardFailed lent (pass (others s.board ss) 0 (p.failed ++ (s ∷ [])) p.boards (p.counted + 1)))))

-- the first frame's fetch: "12 once that crate has had a counted reply or time-up in this pass", then 19; it "changes no state"
unfoldable pub fetch_to : (Step → List ℕ) → List ℕ → Pass → List Step → Result
fetch_to frame lent p [] = refusal 12 lent
fetch_to frame lent p (s ∷ ss) =
    cond (ltb 0 p.counted)
    (refusal 12 lent)
    (cond (too_few lent) (refusal 19 lent) (record { answer = given first_frame; bytes = handed_over (frame s ∷ []) lent; frames = [] }))

abbrev pub react_to : (Step → List ℕ) → Request → List ℕ → Pass → Result × Pass
react_to frame (hand_in e) lent p = serve_to frame e lent p p.todo
react_to frame fetch lent p = (fetch_to frame lent p p.todo, p)

abbrev pub react : (Step → List ℕ) → Lending → Pass → Result × Pass
react frame x p = react_to frame x.0 x.1 p
