-- What refuses a call: the numbers of refusals, of which 0 is none.
use Rattle.std.specs.Prelude.{ℕ, ◌*◌, ◌%◌, cond, eqb, ltb}

-- "Where several apply, the lowest is given": the lower of two numbers of refusals
unfoldable pub lower_of : ℕ → ℕ → ℕ
lower_of m n = cond (eqb m 0) n (cond (eqb n 0) m (cond (ltb n m) n m))

-- 13 where bytes are left over at the end of a series of parts of a size
unfoldable pub left_over : ℕ → ℕ → ℕ
left_over size n = cond (eqb (n % size) 0) 0 13

-- "19: lent output shorter than what is due"
unfoldable pub no_room : ℕ → ℕ → ℕ
no_room due n = cond (ltb n due) 19 0

-- what refuses a pass: its command, or 13 where bytes are left over after the last item, or 19
abbrev pub pass_refusal : ℕ → ℕ → ℕ → ℕ
pass_refusal command n room = lower_of (lower_of command (left_over 29 n)) (no_room 1 room)

-- what refuses the reading of packets: "13: packet is not 7 bytes", of what is left over, or 19
abbrev pub packets_refusal : ℕ → ℕ → ℕ
packets_refusal n room = lower_of (left_over 7 n) (no_room 1 room)

-- what refuses `count` triggers, to which 7 times as many bytes are due: a command before them, or 19 for their packets or for their number
abbrev pub triggers_refusal : ℕ → ℕ → ℕ → ℕ → ℕ
triggers_refusal command count packets number = lower_of (lower_of command (no_room (7 * count) packets)) (no_room 1 number)
