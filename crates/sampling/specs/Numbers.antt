-- Numbers that look random.
use Rattle.std.specs.Prelude.{ℕ, zero, suc, ◌+◌, ◌*◌, ◌/◌, ◌%◌, ◌^◌, ◌==◌, cond}

-- the state after a state
abbrev pub next_state : ℕ → ℕ
next_state s = (1664525 * s + 1013904223) % 2 ^ 32

-- the state that many draws after a state
abbrev pub state_after : ℕ → ℕ → ℕ
state_after s zero = s
state_after s (suc k) = next_state (state_after s k)

-- what is drawn below a count at a state: the remainder of its high byte, and 0 where no number is below the count
abbrev pub drawn : ℕ → ℕ → ℕ
drawn count s = cond (count == 0) 0 (s / 2 ^ 24 % count)
