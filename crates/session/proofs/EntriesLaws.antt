-- the lines of the entries that a delta put into columns
use Rattle.std.proofs.Common.{◌≡◌, ℕ, zero, suc, ◌<◌, ◌≤◌, List, [], ◌∷◌, ◌++◌, map, length, get_or, take, replicate, sym, refl, ap, ◌∙◌, subst, arith, length-take-le, take-suc, to_z-of_z, w32, SFits, ne_eqb}
use mathlib.Core.List.{map-append}
use lib.ListN.{length-replicate, length-map, get_or-append, get_or-map}
use lib.Seq.{take-length}
use Rattle.span.specs.declared.ids.Id.{Id}
use Rattle.span.specs.declared.chunk.RichtextChunk.{RichtextChunk}
use Rattle.span.specs.declared.span.FugueSpan.{FugueSpan}
use Rattle.text.specs.Ascii.{ascii}
use Rattle.script.specs.Print.{number_text, id_text, chunk_text, head_line}
use Rattle.units.specs.Lists.{over}
use Rattle.units.specs.declared.diff.Entry.{Entry}
use Rattle.units.specs.declared.diff.Entry.TheVariants.{Retain, Delete, Insert}
use Rattle.std.specs.Prelude.{None as Nothing, Some as At}
use Rattle.units.specs.Delta.{entries}
use Rattle.rope.specs.declared.diff.EntryNumbers.{EntryNumbers}
use Rattle.rope.specs.Maybe.{DiffAnswer}
use Rattle.std.specs.Prelude.{Ok, Err}
use Rattle.span.specs.declared.refusal.Refusal.{Refusal}
use Rattle.span.specs.Refusal.{number_of}
use Rattle.span.proofs.RefusalLaws.{number_not_zero}
use Rattle.rope.specs.Columns.{entry_numbers, column, least, Filled, Diffed}
use Rattle.session.specs.Say.{up_to, Says}
use Rattle.session.proofs.NumberLaws.{answered_ok}
use Rattle.session.specs.Lines.{refused_lines}
use Rattle.session.specs.Entries.{lamport_text, insert_line, entry_line, numbers_at, entry_at, columns_lines, entries_lines, delta_lines}

-- ---- entries at the fronts of columns

abbrev said : Entry → List ℕ
said e = entry_line (entry_numbers e)

-- past the last entry every number is 0
abbrev past : Entry
past = Retain 0

at : (es : List Entry) (f : EntryNumbers → ℕ) (k : List ℕ) {k2 : List ℕ} (j : ℕ) → k2 ≡ over (column f es) k → f (entry_numbers past) ≡ 0 → j < length es
    → get_or k2 j 0 ≡ f (entry_numbers (get_or es j past))
unfolding over
at es f k j e z h =
    rw e
    (get_or-append (column f es) _ 0 j (rw (length-map es (λ (x : Entry). f (entry_numbers x))) h)
    ∙ ap (get_or (column f es) j) (sym z)
    ∙ get_or-map (λ (x : Entry). f (entry_numbers x)) es j past)

module _ (es : List Entry) (k a b p c l : List ℕ) {k2 a2 b2 p2 c2 l2 : List ℕ} (v : Filled es k a b p c l k2 a2 b2 p2 c2 l2) where
  one : (j : ℕ) → j < length es → numbers_at k2 a2 b2 p2 c2 l2 j ≡ entry_numbers (get_or es j past)
  unfolding entry_numbers
  one j h =
      rw (
        at es (λ (x : EntryNumbers). x.kind) k j v.kind refl h,
        at es (λ (x : EntryNumbers). x.a) a j v.first refl h,
        at es (λ (x : EntryNumbers). x.b) b j v.second refl h,
        at es (λ (x : EntryNumbers). x.peer) p j v.peer refl h,
        at es (λ (x : EntryNumbers). x.counter) c j v.counter refl h,
        at es (λ (x : EntryNumbers). x.lamport) l j v.lamport refl h,
      )

  some : (j : ℕ) → j ≤ length es → up_to (entry_at k2 a2 b2 p2 c2 l2) j ≡ map said (take j es)
  unfolding up_to
  some zero h = refl
  some (suc j) h = rw (some j (omega arith), one j h, take-suc es j past h, map-append said (take j es) (get_or es j past ∷ []))

  filled_lines : columns_lines k2 a2 b2 p2 c2 l2 (length es) ≡ entries_lines es
  unfolding entries_lines
  filled_lines = rw (some (length es) (omega arith), take-length es)

-- ---- the answer of a delta

module _ (code : ℕ) (spans : List FugueSpan) (k a b p c l : List ℕ) {k2 a2 b2 p2 c2 l2 : List ℕ} {r : DiffAnswer} (d : Diffed code spans r k a b p c l k2 a2 b2 p2 c2 l2) where
  pub delta_done : (n : ℕ) → r ≡ Ok n → columns_lines k2 a2 b2 p2 c2 l2 n ≡ delta_lines code (entries spans)
  unfolding delta_lines
  delta_done n f =
      let w = answered_ok code (length (entries spans)) (sym f ∙ d.said) in
      rw (w.0, w.1)
      (filled_lines (entries spans) k a b p c l (record {
        kind = rw w.0 at d.kind;
        first = rw w.0 at d.first;
        second = rw w.0 at d.second;
        peer = rw w.0 at d.peer;
        counter = rw w.0 at d.counter;
        lamport = rw w.0 at d.lamport;
      }))

pub delta_refused : (code : ℕ) (spans : List FugueSpan) (e : Refusal) → number_of e ≡ code → refused_lines (number_of e) ≡ delta_lines code (entries spans)
unfolding delta_lines
delta_refused code spans e q = rw (← q, ne_eqb (number_of e) 0 (number_not_zero e))

-- columns that are all of one length
pub lent : {k a b p c l n : ℕ} → k ≡ n → a ≡ n → b ≡ n → p ≡ n → c ≡ n → l ≡ n → least k a b p c l ≡ n
lent e1 e2 e3 e4 e5 e6 = rw (e1, e2, e3, e4, e5, e6) (omega arith)

-- an array of m zeros has a front of n, and the front has n
pub in_zeros : (m : ℕ) {n : ℕ} → n ≤ m → n ≤ length (replicate {A = ℕ} m 0)
in_zeros m {n} h = subst (λ (k : ℕ). n ≤ k) (sym (length-replicate {A = ℕ} m 0)) h

pub front_long : (n m : ℕ) → n ≤ m → length (take n (replicate {A = ℕ} m 0)) ≡ n
front_long n m h = length-take-le n (replicate m 0) (in_zeros m h)

-- columns that are fronts of such arrays are lent n entries
pub lent_zeros : (n m : ℕ) → n ≤ m → (let k = length (take n (replicate {A = ℕ} m 0)) in least k k k k k k ≡ n)
lent_zeros n m h = let e = front_long n m h in lent e e e e e e

-- the same lines
pub says_as : (at : ℕ) (s : List ℕ) {ls ms : List (List ℕ)} {r : ℕ} {t : List ℕ} → ls ≡ ms → Says at ls s r t → Says at ms s r t
says_as at s e p = rw e at p

-- ---- an entry's line, in its own words

pub retain_line : (n : ℕ) → entry_line (entry_numbers (Retain n)) ≡ head_line (ascii "retain") n
unfolding entry_line entry_numbers
retain_line n = refl

pub delete_line : (n : ℕ) → entry_line (entry_numbers (Delete n)) ≡ head_line (ascii "delete") n
unfolding entry_line entry_numbers
delete_line n = refl

module _ (c : RichtextChunk) (i : Id) (f : SFits w32 i.counter) where
  pub insert_line_lem : (l : ℕ) → entry_line (entry_numbers (Insert c i (At l))) ≡ ascii "insert" ++ id_text i ++ number_text l ++ chunk_text c ++ (10 ∷ [])
  unfolding entry_line entry_numbers insert_line lamport_text
  insert_line_lem l = rw (to_z-of_z f)

  pub bare_line : entry_line (entry_numbers (Insert c i Nothing)) ≡ ascii "insert" ++ id_text i ++ ascii " -" ++ chunk_text c ++ (10 ∷ [])
  unfolding entry_line entry_numbers insert_line lamport_text
  bare_line = rw (to_z-of_z f)
