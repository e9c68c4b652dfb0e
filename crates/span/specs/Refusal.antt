-- The number of each refusal, and answers that are a value or a refusal. Assumes nothing.
use Rattle.std.specs.Prelude.{ℕ, ◌≡◌, Result, Ok, Err, if◌then◌else◌, ◌==◌}
use Rattle.span.specs.declared.refusal.Refusal.{Refusal}
use Rattle.span.specs.declared.refusal.Refusal.TheVariants as Refuse
use Rattle.span.specs.declared.refusal.UnknownNumber.{UnknownNumber}

-- document 01's numbers
abbrev pub number_of : Refusal → ℕ
number_of Refuse.Chunk = 1
number_of Refuse.Id = 2
number_of Refuse.IdTaken = 3
number_of Refuse.Peers = 4
number_of Refuse.Counter = 5
number_of Refuse.Version = 6
number_of Refuse.NotClosed = 7
number_of Refuse.Range = 8
number_of Refuse.Edits = 9
number_of Refuse.Room = 10
number_of Refuse.Count = 11
number_of Refuse.NoRealId = 12
number_of Refuse.Output = 13
number_of Refuse.Mismatch = 14
number_of Refuse.Store = 15

-- the number of an outcome: 0 where it is done
abbrev pub code_of : {A : Type 0} → Result A Refusal → ℕ
code_of (Ok x) = 0
code_of (Err e) = number_of e

-- the refusal that has a number from 1 to 15
unfoldable pub refusal_of : ℕ → Refusal
refusal_of n =
    if n == 1 then Refuse.Chunk else (if n == 2 then Refuse.Id else (if n == 3 then Refuse.IdTaken else (if n == 4 then Refuse.Peers else (if n == 5 then Refuse.Counter else (if n == 6 then Refuse.Version else (if n == 7 then Refuse.NotClosed else (if n == 8 then Refuse.Range else (if n == 9 then Refuse.Edits else (if n == 10 then Refuse.Room else (if n == 11 then Refuse.Count else (if n == 12 then Refuse.NoRealId else (if n == 13 then Refuse.Output else (if n == 14 then Refuse.Mismatch else Refuse.Store)))))))))))))

-- an answer that is this number's refusal
abbrev pub refused : {A : Type 0} → ℕ → Result A Refusal
refused n = Err (refusal_of n)

-- a number read as a refusal: the one that has it, or the number itself where none has
abbrev pub Names : ℕ → Result Refusal UnknownNumber → Type 0
Names n (Ok e) = number_of e ≡ n
Names n (Err u) = (u ≡ record { 0 = n }) × ((e : Refusal) → number_of e ≡ n → ⊥)
