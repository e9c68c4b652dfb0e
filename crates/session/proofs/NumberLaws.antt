-- the numbers of the calls are numbers of refusals, so what is said of a refusal is said of the number
use Rattle.std.proofs.Common.{◌≡◌, ℕ, Bool, true, false, cond, eqb, List, refl, ap, ◌∙◌, eqb-true}
use borrow.Author.Tests.{eqb-false}
use Rattle.std.specs.Prelude.{Ok, Err}
use Rattle.span.specs.declared.ids.Id.{Id}
use Rattle.span.specs.declared.refusal.Refusal.{Refusal}
use Rattle.span.specs.Answer.{answer}
use Rattle.span.specs.Refusal.{number_of, refusal_of, refused}
use Rattle.units.specs.Codes.{delete_code}
use Rattle.rope.specs.Columns.{get_diff_code, diff_rows_code}
use Rattle.rope.specs.Deletions.{delete_number}
use Rattle.apply.specs.Apply.{apply_code}
use Rattle.apply.specs.Called.{delta_code}
use Rattle.tracker.specs.Between.{versions_code, rooms_code, delta_code_in, delta_number}
use Rattle.session.specs.History.{telling_number}
use Rattle.session.specs.Applied.{list_code, new_code, applied_code}

-- 0, or the number of a refusal
pub record IsNumber (code : ℕ) : Type 0 where
  pub back : (code ≡ 0 → ⊥) → number_of (refusal_of code) ≡ code

pub done : IsNumber 0
done = record { back = λ n. absurd (n refl) }

pub first : IsNumber 1
unfolding refusal_of
first = record { back = λ n. refl }

pub second : IsNumber 2
unfolding refusal_of
second = record { back = λ n. refl }

pub version : IsNumber 6
unfolding refusal_of
version = record { back = λ n. refl }

pub not_closed : IsNumber 7
unfolding refusal_of
not_closed = record { back = λ n. refl }

pub range : IsNumber 8
unfolding refusal_of
range = record { back = λ n. refl }

pub room : IsNumber 10
unfolding refusal_of
room = record { back = λ n. refl }

pub unreal : IsNumber 12
unfolding refusal_of
unreal = record { back = λ n. refl }

pub output : IsNumber 13
unfolding refusal_of
output = record { back = λ n. refl }

pub mismatch : IsNumber 14
unfolding refusal_of
mismatch = record { back = λ n. refl }

pub store : IsNumber 15
unfolding refusal_of
store = record { back = λ n. refl }

pub either : (t : Bool) {x y : ℕ} → IsNumber x → IsNumber y → IsNumber (cond t x y)
either true p q = p
either false p q = q

ruleset numbers = (either, done, first, second, version, not_closed, range, room, unreal, output, mismatch, store)

-- ---------------------------------------------------------------- the calls

pub number_of_delete : (s o : List ℕ) (at len : ℕ) (start : Id) (reversed : Bool) → IsNumber (delete_number s o at len start reversed)
unfolding delete_number delete_code
number_of_delete s o at len start reversed = search numbers depth 12

pub number_of_diff : (most : ℕ) (s : List ℕ) → IsNumber (get_diff_code most s)
unfolding get_diff_code diff_rows_code
number_of_diff most s = search numbers depth 12

pub number_of_list : (s : List ℕ) → IsNumber (list_code s)
unfolding list_code
number_of_list s = search numbers depth 12

pub number_of_apply : (k a b p c l old out : List ℕ) → IsNumber (delta_code k a b p c l old out)
unfolding delta_code apply_code
number_of_apply k a b p c l old out = search numbers depth 12

pub number_of_delta : (most : ℕ) (v w s t e : List ℕ) → IsNumber (telling_number most v w s t e)
unfolding delta_number delta_code_in versions_code rooms_code diff_rows_code
number_of_delta most v w s t e = search numbers depth 16

-- so `applied` prints the code that its contract names
pub number_of_applied : (most : ℕ) (v w s t e s' out : List ℕ) → IsNumber (applied_code most v w s t e s' out)
unfolding new_code
number_of_applied most v w s t e s' out =
    either _ (either _ (number_of_apply _ _ _ _ _ _ _ _) (number_of_list _)) (number_of_delta _ _ _ _ _ _)

-- ---------------------------------------------------------------- an answer by its number

module _ {A : Type 0} (code : ℕ) (x : A) where
  pub answered_ok : {y : A} → Ok y ≡ answer Ok refused code x → (code ≡ 0) × (y ≡ x)
  unfolding answer
  answered_ok {y} q = go (eqb code 0) refl q
    where
      go : (t : Bool) → eqb code 0 ≡ t → Ok y ≡ cond t (Ok x) (refused code) → (code ≡ 0) × (y ≡ x)
      go true e h = (eqb-true code 0 e, cc)
      go false e h = cc

  pub answered_err : {e : Refusal} → IsNumber code → Err e ≡ answer Ok refused code x → (number_of e ≡ code) × (code ≡ 0 → ⊥)
  unfolding answer
  answered_err {e} n q = go (eqb code 0) refl q
    where
      go : (t : Bool) → eqb code 0 ≡ t → Err e ≡ cond t (Ok x) (refused code) → (number_of e ≡ code) × (code ≡ 0 → ⊥)
      go true f h = cc
      go false f h =
          let same : e ≡ refusal_of code = cc in
          let some : code ≡ 0 → ⊥ = eqb-false code 0 f in
          (ap number_of same ∙ n.back some, some)
