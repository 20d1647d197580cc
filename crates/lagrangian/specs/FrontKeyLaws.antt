-- The key of a pattern's front: with one digit more it stays below its power, and fits 64 bits.
use Rattle.std.specs.Prelude.{◌≡◌, ℕ, suc, ◌+◌, ◌*◌, ◌^◌, ◌<◌, ◌≤◌}
use Rattle.std.proofs.Common.{mul_comm, arith}
use Rattle.std.proofs.Math.Nat.{pow-le-pow_right, pow-zero, pow-succ'}
use Rattle.std.proofs.Math.Arith.{digits_lt}
use Rattle.assignment.specs.KeyLaws.{keys_fit}
use Rattle.assignment.specs.Keys.{key_base}
use Rattle.assignment.specs.Limits.{most_items}

-- a key with one digit more
pub key_grows : (key c n : ℕ) → key < key_base ^ n → c < key_base → key * key_base + c < key_base ^ (n + 1)
key_grows key c n below digit =
    let one_more : n + 1 ≡ suc n = omega arith in
    rw (one_more, pow-succ' key_base n, mul_comm key_base (key_base ^ n)) (digits_lt below digit)

-- it fits 64 bits
pub key_fits : (key c n : ℕ) → key < key_base ^ n → n < most_items → c < key_base → key * key_base + c < 2 ^ 64
unfolding key_base
key_fits key c n below few digit =
    let some : 0 < 33 = omega arith in
    let under : n + 1 ≤ most_items = omega arith in
    let most : key_base ^ (n + 1) ≤ key_base ^ most_items = pow-le-pow_right some under in
    omega (arith, key_grows key c n below digit, keys_fit {n = most_items} (omega arith))

pub power_above_0 : (n : ℕ) → 0 < key_base ^ n
unfolding key_base
power_above_0 n =
    let some : 0 < 33 = omega arith in
    let from : 0 ≤ n = omega arith in
    let grows : key_base ^ 0 ≤ key_base ^ n = pow-le-pow_right some from in
    rw pow-zero at grows
