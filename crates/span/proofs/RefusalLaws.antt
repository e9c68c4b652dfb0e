-- Refusals, their numbers, and what an outcome's number tells. Assumes nothing.
use Prim.Native.Nat.{ℕ, zero, suc, ◌≤◌}
use mathlib.Core.Path.{◌≡◌, refl, sym, ap, ◌∙◌}
use native.Mathlib.Omega.{arith}
use Rattle.std.specs.Prelude.{Result, Ok, Err}
use Rattle.std.specs.Result.{IsErrAnd}
use Rattle.std.proofs.lemmas.Result.{err_from_is_err_and}
use Rattle.span.specs.declared.refusal.Refusal.{Refusal}
use Rattle.span.specs.declared.refusal.Refusal.TheVariants as Refuse
use Rattle.span.specs.Refusal.{number_of, refusal_of, refused, code_of}
use Rattle.span.specs.Answer.{answer}
use Rattle.span.proofs.AnswerLaws.{is_done, is_refused}

-- no refusal has the number 0, which stands for done
pub number_not_zero : (e : Refusal) → number_of e ≡ 0 → ⊥
number_not_zero Refuse.Chunk h = omega (arith, h)
number_not_zero Refuse.Id h = omega (arith, h)
number_not_zero Refuse.IdTaken h = omega (arith, h)
number_not_zero Refuse.Peers h = omega (arith, h)
number_not_zero Refuse.Counter h = omega (arith, h)
number_not_zero Refuse.Version h = omega (arith, h)
number_not_zero Refuse.NotClosed h = omega (arith, h)
number_not_zero Refuse.Range h = omega (arith, h)
number_not_zero Refuse.Edits h = omega (arith, h)
number_not_zero Refuse.Room h = omega (arith, h)
number_not_zero Refuse.Count h = omega (arith, h)
number_not_zero Refuse.NoRealId h = omega (arith, h)
number_not_zero Refuse.Output h = omega (arith, h)
number_not_zero Refuse.Mismatch h = omega (arith, h)
number_not_zero Refuse.Store h = omega (arith, h)

-- a refusal is the one that has its number
pub refusal_back : (e : Refusal) → refusal_of (number_of e) ≡ e
unfolding refusal_of
refusal_back Refuse.Chunk = refl
refusal_back Refuse.Id = refl
refusal_back Refuse.IdTaken = refl
refusal_back Refuse.Peers = refl
refusal_back Refuse.Counter = refl
refusal_back Refuse.Version = refl
refusal_back Refuse.NotClosed = refl
refusal_back Refuse.Range = refl
refusal_back Refuse.Edits = refl
refusal_back Refuse.Room = refl
refusal_back Refuse.Count = refl
refusal_back Refuse.NoRealId = refl
refusal_back Refuse.Output = refl
refusal_back Refuse.Mismatch = refl
refusal_back Refuse.Store = refl

-- and a number from 1 to 15 is that of its refusal
pub number_back : (n : ℕ) → 1 ≤ n → n ≤ 15 → number_of (refusal_of n) ≡ n
unfolding refusal_of
number_back zero h k = absurd (omega (arith, h))
number_back (suc zero) h k = refl
number_back (suc (suc zero)) h k = refl
number_back (suc (suc (suc zero))) h k = refl
number_back (suc (suc (suc (suc zero)))) h k = refl
number_back (suc (suc (suc (suc (suc zero))))) h k = refl
number_back (suc (suc (suc (suc (suc (suc zero)))))) h k = refl
number_back (suc (suc (suc (suc (suc (suc (suc zero))))))) h k = refl
number_back (suc (suc (suc (suc (suc (suc (suc (suc zero)))))))) h k = refl
number_back (suc (suc (suc (suc (suc (suc (suc (suc (suc zero))))))))) h k = refl
number_back (suc (suc (suc (suc (suc (suc (suc (suc (suc (suc zero)))))))))) h k = refl
number_back (suc (suc (suc (suc (suc (suc (suc (suc (suc (suc (suc zero))))))))))) h k = refl
number_back (suc (suc (suc (suc (suc (suc (suc (suc (suc (suc (suc (suc zero)))))))))))) h k = refl
number_back (suc (suc (suc (suc (suc (suc (suc (suc (suc (suc (suc (suc (suc zero))))))))))))) h k = refl
number_back (suc (suc (suc (suc (suc (suc (suc (suc (suc (suc (suc (suc (suc (suc zero)))))))))))))) h k = refl
number_back (suc (suc (suc (suc (suc (suc (suc (suc (suc (suc (suc (suc (suc (suc (suc zero))))))))))))))) h k = refl
number_back (suc (suc (suc (suc (suc (suc (suc (suc (suc (suc (suc (suc (suc (suc (suc (suc n)))))))))))))))) h k = absurd (omega (arith, k))

-- two refusals with one number are one
pub number_of-injective : (d e : Refusal) → number_of d ≡ number_of e → d ≡ e
number_of-injective d e h = sym (refusal_back d) ∙ ap refusal_of h ∙ refusal_back e

-- two outcomes with one number are one
pub code_of-injective : (r s : Result (Unit {0}) Refusal) → code_of r ≡ code_of s → r ≡ s
code_of-injective (Ok x) (Ok y) h = refl
code_of-injective (Ok x) (Err e) h = absurd (number_not_zero e (sym h))
code_of-injective (Err d) (Ok y) h = absurd (number_not_zero d h)
code_of-injective (Err d) (Err e) h = ap Err (number_of-injective d e h)

-- an answer by a code: the value where nothing refuses, and else the refusal that has the code
pub answer_ok : {T : Type 0} (k : ℕ) (x y : T) → k ≡ 0 → x ≡ y → Ok x ≡ answer Ok refused k y
answer_ok k x y h e = is_done Ok refused k h e

pub answer_err : {T : Type 0} (e : Refusal) (k : ℕ) (y : T) → number_of e ≡ k → Err e ≡ answer Ok refused k y
answer_err e k y h = ap Err (sym (refusal_back e)) ∙ is_refused Ok refused k (number_of e) y (number_not_zero e) h

-- the same where `?` hands the refusal on
pub answer_exit : {T : Type 0} (r : Result T Refusal) (e : Refusal) (k : ℕ) (y : T) → IsErrAnd r (λ (d : Refusal). d ≡ e) → number_of e ≡ k → r ≡ answer Ok refused k y
answer_exit r e k y x h = let p = err_from_is_err_and r x in p.1 ∙ (ap Err p.2 ∙ answer_err e k y h)

pub ruleset answers = (answer_ok, answer_err)
