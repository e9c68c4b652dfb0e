-- Tests over lists, and a list written over another. Assumes nothing.
use Rattle.std.specs.Prelude.{Bool, true, false, ◌&&◌, ◌||◌, List, [], ◌∷◌, ◌++◌, length, drop, if◌then◌else◌}

-- a test holds of every entry, of some entry
unfoldable pub every : {A : Type 0} → (A → Bool) → List A → Bool
every t [] = true
every t (a ∷ l) = t a && every t l

unfoldable pub some : {A : Type 0} → (A → Bool) → List A → Bool
some t [] = false
some t (a ∷ l) = t a || some t l

-- the entries for which a test holds
unfoldable pub keep_if : {A : Type 0} → (A → Bool) → List A → List A
keep_if t [] = []
keep_if t (a ∷ l) = if t a then a ∷ keep_if t l else keep_if t l

-- a lent output after `new` is written to its front: it is kept past the last entry
unfoldable pub over : {A : Type 0} → List A → List A → List A
over new out = new ++ drop (length new) out
