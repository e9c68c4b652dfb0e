-- A span's row of 72 bytes: what it says, and the bytes of a span.
-- 0 peer, 8 real peer, 16 left peer, 24 right peer (u64); 32 counter, 36 lamport, 40 real counter, 44 left counter, 48 right counter,
-- 52 start, 56 end, 60 both times (i16, i16), 64 flags (u32); 68 spare. Signed numbers stand by their two's complement bits.
-- Flags from the lowest bit: future, diff is there, its future, real id is there, origin left, origin right.
use Rattle.std.specs.Prelude.{ℕ, zero, suc, ◌+◌, ◌-◌, ◌*◌, ◌/◌, ◌%◌, ◌^◌, ◌<◌, ◌≤◌, Bool, true, false, List, [], ◌∷◌, ◌++◌, ◌≡◌, length, set, take, drop, ℤ, pos, ◌==◌, Some, None}
use Rattle.std.specs.Int.{w16, w32}
use Rattle.std.proofs.Common.{SFits, to_z, of_z}
use Rattle.words.specs.Le.{le, bytes_of, put}
use Rattle.span.specs.declared.ids.Id.{Id}
use Rattle.span.specs.Maybe.{OptId}
use Rattle.span.specs.declared.status.Status.{Status}
use Rattle.span.specs.Maybe.{OptStatus}
use Rattle.span.specs.declared.span.FugueSpan.{FugueSpan}
use Rattle.store.specs.declared.Words.{Words}

abbrev pub bits32 : ℤ → ℕ
bits32 x = of_z w32 x

abbrev pub bits16 : ℤ → ℕ
bits16 x = of_z w16 x

-- ---- reading

abbrev pub id_of : ℕ → ℕ → Id
id_of p w = record { peer = p; counter = to_z w32 w }

abbrev pub status_of : Bool → ℕ → Status
status_of f w = record { future = f; delete_times = to_z w16 w }

abbrev pub opt_of : Bool → ℕ → ℕ → OptId
opt_of false p w = None
opt_of true p w = Some (id_of p w)

abbrev pub maybe_of : Bool → Bool → ℕ → OptStatus
maybe_of false f w = None
maybe_of true f w = Some (status_of f w)

abbrev pub low_of : ℕ → Bool
low_of w = (w % 2) == 1

abbrev pub u64_at : List ℕ → ℕ → ℕ
u64_at s at = le (take 8 (drop at s))

abbrev pub u32_at : List ℕ → ℕ → ℕ
u32_at s at = le (take 4 (drop at s))

unfoldable pub words_at : List ℕ → ℕ → Words
words_at s b =
    record {
      p0 = u64_at s b;
      p1 = u64_at s (b + 8);
      p2 = u64_at s (b + 16);
      p3 = u64_at s (b + 24);
      c0 = u32_at s (b + 32);
      c1 = u32_at s (b + 36);
      c2 = u32_at s (b + 40);
      c3 = u32_at s (b + 44);
      c4 = u32_at s (b + 48);
      c5 = u32_at s (b + 52);
      c6 = u32_at s (b + 56);
      c7 = u32_at s (b + 60);
      c8 = u32_at s (b + 64);
    }

unfoldable pub span_of : Words → FugueSpan
span_of w =
    record {
      id = id_of w.p0 w.c0;
      lamport = w.c1;
      real_id = opt_of (low_of (w.c8 / 2 / 2 / 2)) w.p1 w.c2;
      status = status_of (low_of w.c8) (w.c7 % 65536);
      diff_status = maybe_of (low_of (w.c8 / 2)) (low_of (w.c8 / 2 / 2)) (w.c7 / 65536);
      origin_left = opt_of (low_of (w.c8 / 2 / 2 / 2 / 2)) w.p2 w.c3;
      origin_right = opt_of (low_of (w.c8 / 2 / 2 / 2 / 2 / 2)) w.p3 w.c4;
      content = record { start = w.c5; end = w.c6 };
    }

abbrev pub row_at : List ℕ → ℕ → FugueSpan
row_at s b = span_of (words_at s b)

-- ---- writing

abbrev pub peer_of : OptId → ℕ
peer_of None = 0
peer_of (Some i) = i.peer

abbrev pub ctr_of : OptId → ℤ
ctr_of None = pos 0
ctr_of (Some i) = i.counter

abbrev pub has_of : OptId → Bool
has_of None = false
has_of (Some i) = true

abbrev pub has_status : OptStatus → Bool
has_status None = false
has_status (Some t) = true

abbrev pub future_of : OptStatus → Bool
future_of None = false
future_of (Some t) = t.future

abbrev pub times_of : OptStatus → ℤ
times_of None = pos 0
times_of (Some t) = t.delete_times

abbrev pub bit_of : Bool → ℕ
bit_of true = 1
bit_of false = 0

unfoldable pub flags_of : Bool → Bool → Bool → Bool → Bool → Bool → ℕ
flags_of a b c d e f = bit_of a + 2 * (bit_of b + 2 * (bit_of c + 2 * (bit_of d + 2 * (bit_of e + 2 * bit_of f))))

unfoldable pub words_of : FugueSpan → Words
words_of x =
    record {
      p0 = x.id.peer;
      p1 = peer_of x.real_id;
      p2 = peer_of x.origin_left;
      p3 = peer_of x.origin_right;
      c0 = bits32 x.id.counter;
      c1 = x.lamport;
      c2 = bits32 (ctr_of x.real_id);
      c3 = bits32 (ctr_of x.origin_left);
      c4 = bits32 (ctr_of x.origin_right);
      c5 = x.content.start;
      c6 = x.content.end;
      c7 = bits16 x.status.delete_times + 65536 * bits16 (times_of x.diff_status);
      c8 = flags_of x.status.future (has_status x.diff_status) (future_of x.diff_status) (has_of x.real_id) (has_of x.origin_left) (has_of x.origin_right);
    }

unfoldable pub word_bytes : Words → List ℕ
word_bytes w =
    (bytes_of 8 w.p0 ++ bytes_of 8 w.p1 ++ bytes_of 8 w.p2 ++ bytes_of 8 w.p3)
    ++ (bytes_of 4 w.c0 ++ bytes_of 4 w.c1 ++ bytes_of 4 w.c2 ++ bytes_of 4 w.c3)
    ++ (bytes_of 4 w.c4 ++ bytes_of 4 w.c5 ++ bytes_of 4 w.c6 ++ bytes_of 4 w.c7)
    ++ bytes_of 4 w.c8
    ++ bytes_of 4 0

abbrev pub row_bytes : FugueSpan → List ℕ
row_bytes x = word_bytes (words_of x)

-- the fields fit their types, as every value of the program does
pub record Fitting (w : Words) : Type 0 where
  pub p0 : w.p0 < 2 ^ 64
  pub p1 : w.p1 < 2 ^ 64
  pub p2 : w.p2 < 2 ^ 64
  pub p3 : w.p3 < 2 ^ 64
  pub c0 : w.c0 < 2 ^ 32
  pub c1 : w.c1 < 2 ^ 32
  pub c2 : w.c2 < 2 ^ 32
  pub c3 : w.c3 < 2 ^ 32
  pub c4 : w.c4 < 2 ^ 32
  pub c5 : w.c5 < 2 ^ 32
  pub c6 : w.c6 < 2 ^ 32
  pub c7 : w.c7 < 2 ^ 32
  pub c8 : w.c8 < 2 ^ 32

-- the signed fields fit, as every value of the program does
pub record Signed (x : FugueSpan) : Type 0 where
  pub own : SFits w32 x.id.counter
  pub real : SFits w32 (ctr_of x.real_id)
  pub left : SFits w32 (ctr_of x.origin_left)
  pub right : SFits w32 (ctr_of x.origin_right)
  pub times : SFits w16 x.status.delete_times
  pub diff : SFits w16 (times_of x.diff_status)

-- the first n rows of a buffer
unfoldable pub rows : ℕ → List ℕ → List FugueSpan
rows zero s = []
rows (suc n) s = row_at s 0 ∷ rows n (drop 72 s)

-- t is s with the span x in row i
pub record PutRow (i : ℕ) (x : FugueSpan) (s t : List ℕ) : Type 0 where
  pub bytes : t ≡ put (i * 72) (row_bytes x) s
  pub list : (n : ℕ) → n * 72 ≤ length s → i < n → rows n t ≡ set (rows n s) i x
