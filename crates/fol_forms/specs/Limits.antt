-- How large a form may be, and how far counts go.
use Rattle.std.specs.Prelude.{ℕ, ◌^◌, ◌-◌, min}

-- the most nodes that a form is made with
abbrev pub most_nodes : ℕ
most_nodes = 1048576

-- a count, or the greatest number of 64 bits where that is less
unfoldable pub capped : ℕ → ℕ
capped n = min n (2 ^ 64 - 1)
