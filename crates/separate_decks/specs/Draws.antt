-- Numbers that look random, drawn one after the other from a state of 64 bits.
use Rattle.std.specs.Prelude.{ℕ, zero, suc, ◌+◌, ◌*◌, ◌/◌, ◌%◌, ◌^◌}

-- the state after one draw
unfoldable pub next_state : ℕ → ℕ
next_state x = (x * 6364136223846793005 + 1442695040888963407) % 2 ^ 64

-- the state after so many draws
unfoldable pub skip : ℕ → ℕ → ℕ
skip zero x = x
skip (suc n) x = skip n (next_state x)

-- the number below k that the j-th draw from a state gives, where j counts from 1
unfoldable pub draw : ℕ → ℕ → ℕ → ℕ
draw x j k = skip j x / 2 ^ 33 % k
