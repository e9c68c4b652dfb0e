-- the count of a list's lines and the checksum, turn by turn
use Rattle.std.proofs.Common.{◌≡◌, ℕ, ◌+◌, ◌*◌, ◌%◌, ◌^◌, ◌<◌, ◌≤◌, List, length, get_or, drop, refl, ◌∙◌, add-one, drop_of_length-le, drop-cons}
use native.Mathlib.Nat.{mod-add-mod}
use Rattle.session.specs.declared.look.Kind.{Kind}
use Rattle.session.specs.Lines.{row_of, row_count, rows_count, sum_on}

pub count_first : (kind : Kind) (s : List ℕ) → 0 ≡ rows_count kind s 0 % 2 ^ 64
unfolding rows_count
count_first kind s = refl

pub count_next : (kind : Kind) (s : List ℕ) (i : ℕ) {sum n r : ℕ} → sum ≡ rows_count kind s i % 2 ^ 64 → n ≡ row_count kind (row_of s i) → r ≡ (sum + n) % 2 ^ 64 → r ≡ rows_count kind s (i + 1) % 2 ^ 64
unfolding rows_count
count_next kind s i e f g = g ∙ rw (e, f, add-one i) (mod-add-mod (rows_count kind s i) (2 ^ 64) (row_count kind (row_of s i)))

pub sum_next : (s : List ℕ) (i sum : ℕ) → i < length s → sum_on sum (drop i s) ≡ sum_on ((sum * 257 + get_or s i 0) % 4294967291) (drop (i + 1) s)
unfolding sum_on
sum_next s i sum h = rw (add-one i, drop-cons s i 0 h)

pub sum_last : (s : List ℕ) (i sum : ℕ) → length s ≤ i → sum_on sum (drop i s) ≡ sum
unfolding sum_on
sum_last s i sum h = rw (drop_of_length-le s {i = i} h)
