-- no line said, one line said, and lines said after others
use Rattle.std.proofs.Common.{◌≡◌, ℕ, ◌+◌, List, [], ◌∷◌, ◌++◌, length, refl, ap, ◌∙◌, add-one}
use Rattle.text.specs.Puts.{written, placed, Puts}
use Rattle.text.proofs.PutsLaws.{length-written}
use Rattle.session.specs.Say.{line_start, said_at, said_text, Says, up_to}

pub says_none : (at : ℕ) (s : List ℕ) → Says at [] s at s
unfolding said_at said_text
says_none at s = (refl, refl)

-- a line put where it starts
pub says_line : (at : ℕ) (l s : List ℕ) {a r : ℕ} {t : List ℕ} → a ≡ line_start at → Puts a l s r t → Says at (l ∷ []) s r t
unfolding said_at said_text
says_line at l s e p = (p.0 ∙ rw e, p.1 ∙ rw e)

at-append : (ks ls : List (List ℕ)) (at : ℕ) (s : List ℕ) → said_at ls (said_at ks at s) (said_text ks at s) ≡ said_at (ks ++ ls) at s
unfolding said_at said_text
at-append [] ls at s = refl
at-append (k ∷ ks) ls at s = at-append ks ls (placed (line_start at) k s) (written (line_start at) k s)

text_append : (ks ls : List (List ℕ)) (at : ℕ) (s : List ℕ) → said_text ls (said_at ks at s) (said_text ks at s) ≡ said_text (ks ++ ls) at s
unfolding said_at said_text
text_append [] ls at s = refl
text_append (k ∷ ks) ls at s = text_append ks ls (placed (line_start at) k s) (written (line_start at) k s)

-- lines said after others
pub says_then : (at : ℕ) (ks ls : List (List ℕ)) (s : List ℕ) {a b : ℕ} {s1 s2 : List ℕ}
    → Says at ks s a s1 → Says a ls s1 b s2 → Says at (ks ++ ls) s b s2
says_then at ks ls s p q = (q.0 ∙ rw (p.0, p.1) (at-append ks ls at s), q.1 ∙ rw (p.0, p.1) (text_append ks ls at s))

-- a loop that says the lines of f i in turn i: before the first turn, in a turn, and after the last
pub says_first : (f : ℕ → List (List ℕ)) (at : ℕ) (s : List ℕ) → Says at (up_to f 0) s at s
unfolding up_to
says_first f at s = says_none at s

pub says_next : (f : ℕ → List (List ℕ)) (at i : ℕ) (s : List ℕ) {a b : ℕ} {s1 s2 : List ℕ}
    → Says at (up_to f i) s a s1 → Says a (f i) s1 b s2 → Says at (up_to f (i + 1)) s b s2
unfolding up_to
says_next f at i s p q = rw (add-one i) (says_then at (up_to f i) (f i) s p q)

pub says_all : (f : ℕ → List (List ℕ)) (at : ℕ) (s : List ℕ) {r : ℕ} {t : List ℕ} {i n : ℕ} → i ≡ n → Says at (up_to f i) s r t → Says at (up_to f n) s r t
says_all f at s e p = (p.0 ∙ ap (λ (k : ℕ). said_at (up_to f k) at s) e, p.1 ∙ ap (λ (k : ℕ). said_text (up_to f k) at s) e)

-- lines that are equal are said alike
pub says_same : (at : ℕ) (s : List ℕ) {ks ls : List (List ℕ)} {r : ℕ} {t : List ℕ} → ks ≡ ls → Says at ks s r t → Says at ls s r t
says_same at s e p = (p.0 ∙ ap (λ (l : List (List ℕ)). said_at l at s) e, p.1 ∙ ap (λ (l : List (List ℕ)). said_text l at s) e)

-- the buffer's length stays
pub length_said : (ls : List (List ℕ)) (at : ℕ) (s : List ℕ) → length (said_text ls at s) ≡ length s
unfolding said_text
length_said [] at s = refl
length_said (l ∷ ls) at s = length_said ls (placed (line_start at) l s) (written (line_start at) l s) ∙ length-written (line_start at) l s
