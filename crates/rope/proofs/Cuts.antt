-- the cut that a change makes in a span, and what is left of a delete after it
use Prim.Native.Nat.{ℕ, ◌+◌, ◌-◌, ◌<◌, ◌≤◌, min}
use mathlib.Core.Path.{◌≡◌, refl, sym, ap, ap₂, subst}
use mathlib.Core.Bool.{Bool, true, false, not, cond, true≢false, false≢true, and-eq-true_iff}
use native.Mathlib.Omega.{arith}
use lib.Dec.{eqb}
use lib.IntN.{ℤ, pos, negsuc, ◌+ℤ◌}
use borrow.Author.Tests.{le-leb, leb-true, eqb-true}
use Rattle.span.specs.declared.ids.Id.{Id}
use Rattle.std.specs.Prelude.{Some as At}
use Rattle.span.specs.declared.status.Status.{Status}
use Rattle.span.specs.declared.span.FugueSpan.{FugueSpan}
use Rattle.span.specs.Ids.{UNKNOWN_PEER, room, room_of, room_opt, inc_id}
use Rattle.span.specs.Status.{status, eq_z, activated}
use Rattle.span.specs.Span.{len_span, active_len}
use Rattle.rope.specs.declared.change.Delete.{Delete}
use Rattle.rope.specs.declared.change.Update.{Update}
use Rattle.rope.specs.declared.change.Change.{Change}
use Rattle.rope.specs.declared.change.Change.TheVariants as Ch
use Rattle.rope.specs.declared.change.Part.{Part}
use Rattle.rope.specs.Pieces.{part, delete_cut, took_of, delete_after, CanDelete, part_at, part_from, update_cut, cut_of, after_of, CanCut}
use Rattle.rope.proofs.Seeks.{active_most}

-- ---- room for ids

room_less : (z : ℤ) (m n : ℕ) → m ≤ n → room z n ≡ true → room z m ≡ true
unfolding room
room_less (pos k) m n h e = le-leb (k + m) 2147483647 (omega (arith, leb-true (k + n) 2147483647 e))
room_less (negsuc k) m n h e = e

room_on : (z : ℤ) (i m n : ℕ) → i + m ≤ n → room z n ≡ true → room (z +ℤ pos i) m ≡ true
unfolding room
room_on (pos k) i m n h e = le-leb (k + i + m) 2147483647 (omega (arith, leb-true (k + n) 2147483647 e))
room_on (negsuc k) i m n h e = absurd (true≢false (sym e))

module _ (i : Id) (n : ℕ) (e : room_opt (At i) n ≡ true) where
  both : (not (eqb i.peer UNKNOWN_PEER) ≡ true) × (room_of i n ≡ true)
  unfolding room_opt
  both = (and-eq-true_iff (not (eqb i.peer UNKNOWN_PEER)) (room_of i n)).0 e

  pub own_room : (m : ℕ) → m ≤ n → room_of i m ≡ true
  own_room m h = room_less i.counter m n h both.1

  pub less_room : (m : ℕ) → m ≤ n → room_opt (At i) m ≡ true
  unfolding room_opt
  less_room m h = (and-eq-true_iff (not (eqb i.peer UNKNOWN_PEER)) (room_of i m)).1 (both.0, own_room m h)

  pub next_room : (k m : ℕ) → k + m ≤ n → room_opt (At (inc_id i k)) m ≡ true
  unfolding room_opt inc_id
  next_room k m h = (and-eq-true_iff (not (eqb i.peer UNKNOWN_PEER)) (room (i.counter +ℤ pos k) m)).1 (both.0, room_on i.counter k m n h both.1)

-- ---- a delete

module _ (d : Delete) (s : FugueSpan) where
  pub took_most : took_of d s ≤ d.len
  unfolding took_of delete_cut
  took_most = omega arith

  pub delete_low : (delete_cut d s).from ≤ (delete_cut d s).to
  unfolding delete_cut
  delete_low = omega arith

  pub delete_most : (delete_cut d s).to ≤ len_span s
  unfolding delete_cut
  delete_most = omega (arith, active_most s)

  pub can_after : CanDelete d → CanDelete (delete_after d s)
  unfolding delete_after
  can_after c =
      record {
        fits = omega (arith, c.fits);
        room = next_room d.start d.len c.room (took_of d s) (d.len - took_of d s) (omega (arith, took_most));
      }

  -- what it takes is visible
  pub cut_seen : (delete_cut d s).from < (delete_cut d s).to → activated s.status ≡ true
  unfolding delete_cut active_len
  cut_seen h = go (activated s.status) h
    where
      go : (t : Bool) → min d.at (cond t (len_span s) 0) < min (d.at + d.len) (cond t (len_span s) 0) → t ≡ true
      go true k = refl
      go false k = absurd (omega arith)

zero_of : (z : ℤ) → eq_z z (pos 0) ≡ true → z ≡ pos 0
zero_of (pos n) e = ap pos (eqb-true n 0 e)
zero_of (negsuc n) e = absurd (false≢true e)

-- a visible unit, once deleted
pub gone : (s : Status) → activated s ≡ true → status s.future (s.delete_times +ℤ pos 1) ≡ status false (pos 1)
unfolding activated
gone s e = ap₂ status (fut s.future t.0) (ap (λ (z : ℤ). z +ℤ pos 1) (zero_of s.delete_times t.1))
  where
    t : (not s.future ≡ true) × (eq_z s.delete_times (pos 0) ≡ true)
    t = (and-eq-true_iff (not s.future) (eq_z s.delete_times (pos 0))).0 e

    fut : (b : Bool) → not b ≡ true → b ≡ false
    fut true f = absurd (false≢true f)
    fut false f = refl

-- ---- an update

module _ (u : Update) (n : ℕ) where
  from_most : (z : ℤ) → ((part_from u z n).from ≤ n) × ((part_from u z n).to ≤ n)
  unfolding part_at
  from_most (pos k) = (omega arith, omega arith)
  from_most (negsuc k) = (omega arith, omega arith)

module _ (u : Update) (s : FugueSpan) where
  pub cut_by : (t : Bool) → eqb s.id.peer u.peer ≡ t → cond t (part_from u s.id.counter (len_span s)) (part 0 0) ≡ update_cut u s
  unfolding update_cut
  cut_by t e = ap (λ (b : Bool). cond b (part_from u s.id.counter (len_span s)) (part 0 0)) (sym e)

  pub update_most : ((update_cut u s).from ≤ len_span s) × ((update_cut u s).to ≤ len_span s)
  update_most =
      subst (λ (p : Part). (p.from ≤ len_span s) × (p.to ≤ len_span s)) (cut_by (eqb s.id.peer u.peer) refl) (go (eqb s.id.peer u.peer))
    where
      go : (t : Bool) → ((cond t (part_from u s.id.counter (len_span s)) (part 0 0)).from ≤ len_span s) × ((cond t (part_from u s.id.counter (len_span s)) (part 0 0)).to ≤ len_span s)
      go true = from_most u (len_span s) s.id.counter
      go false = (omega arith, omega arith)

-- ---- either

pub after_can : (e : Change) (s : FugueSpan) → CanCut e → CanCut (after_of e s)
unfolding CanCut after_of
after_can (Ch.Delete d) s c = can_after d s c
after_can (Ch.Update u) s c = tt

pub cut_most : (e : Change) (s : FugueSpan) → ((cut_of e s).from ≤ len_span s) × ((cut_of e s).to ≤ len_span s)
unfolding cut_of
cut_most (Ch.Delete d) s = (omega (arith, delete_low d s, delete_most d s), delete_most d s)
cut_most (Ch.Update u) s = update_most u s
