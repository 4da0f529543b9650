-- The scope's limits, each in one place.
use Rattle.std.specs.Prelude.{ℕ, ◌+◌, ◌-◌}

-- The largest budget, and how many digits a number may have.
abbrev pub most_budget : ℕ
most_budget = 33_554_432

abbrev pub most_digits : ℕ
most_digits = 8

-- How many symbols may be listed, and the largest arity.
abbrev pub most_symbols : ℕ
most_symbols = 64

abbrev pub most_arity : ℕ
most_arity = 3

-- How many states an automaton may have, the last state or class that there can be, and how many transitions.
abbrev pub most_states : ℕ
most_states = 32

abbrev pub last_state : ℕ
last_state = most_states - 1

abbrev pub most_transitions : ℕ
most_transitions = 128

-- How many rules there may be, how many tokens on a side, the last variable, x3, and so how many variables.
abbrev pub most_rules : ℕ
most_rules = 32

abbrev pub most_tokens : ℕ
most_tokens = 24

abbrev pub last_variable : ℕ
last_variable = 3

abbrev pub most_variables : ℕ
most_variables = last_variable + 1

-- How many lines a file may have, how many bytes, and how long an answer buffer must be.
abbrev pub most_lines : ℕ
most_lines = 10 + (most_transitions + most_transitions) + (most_rules + most_rules)

abbrev pub most_bytes : ℕ
most_bytes = 16_384

abbrev pub least_buffer : ℕ
least_buffer = 128
