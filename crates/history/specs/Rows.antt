-- 01's ten rows, and the four that our reading of it adds, under one checked claim: by arrivals in every order that is accepted, and by the tree built from
-- the set alone, where the row is of placement.
use Rattle.std.specs.Prelude.{ℕ, zero, suc, ◌≡◌, refl, true, false, List, [], ◌∷◌, ◌++◌, map, ℤ, pos, if◌then◌else◌, ◌==◌, None}
use Rattle.span.specs.declared.ids.Id.{Id}
use Rattle.span.specs.Maybe.{OptId}
use Rattle.span.specs.declared.span.FugueSpan.{FugueSpan}
use Rattle.span.specs.Chunk.{chunk, len_of}
use Rattle.span.specs.Units.{tab, expand}
use Rattle.units.specs.declared.diff.Entry.{Entry}
use Rattle.units.specs.declared.diff.Entry.TheVariants.{Retain}
use Rattle.units.specs.declared.diff.Entry.TheVariants as D
use Rattle.std.specs.Prelude.{Some}
use Rattle.history.specs.Edit.{Version, Edit, History}
use Rattle.history.specs.Tree.{tree_of}
use Rattle.history.specs.Codes.{arrive_code, delta_of}
use Rattle.history.specs.Open.{history_open}
use Rattle.history.specs.Script.{◌∶◌, u, text, one, del, accept, run, new, ids, shown_ids}

-- each edit that is accepted next; the histories after all of them, in every order that is accepted throughout
abbrev try_each : (History → List Edit → List History) → History → List Edit → List Edit → List History
try_each next h before [] = []
try_each next h before (e ∷ es) =
    (if arrive_code 65536 65536 h e == 0 then next (accept h e) (before ++ es) else []) ++ try_each next h (before ++ (e ∷ [])) es

abbrev orders : ℕ → History → List Edit → List History
orders zero h es = h ∷ []
orders (suc d) h es = try_each (orders d) h [] es

-- the ids that n edits end with, for each order that is accepted throughout; and those of the tree built from the set alone
abbrev arrivals : ℕ → List Edit → List (List Id)
arrivals n es = map ids (orders n (new 0) es)

abbrev walked : List Edit → List Id
walked es = map (λ (v : FugueSpan). v.id) (tree_of 0 es).list

abbrev times : ℕ → List Id → List (List Id)
times n l = tab (λ (k : ℕ). l) 0 n

-- ---------------------------------------------------------------- the sets

abbrev P1 : List Edit
P1 = text 2 1 0 0 [] ∷ one 2 0 0 [] ∷ []

abbrev P2 : List Edit
P2 = one 3 0 1 (1 ∶ 2 ∷ []) ∷ P1

abbrev P3 : List Edit
P3 = one 3 0 1 (1 ∶ 1 ∷ []) ∷ P1

abbrev P5 : List Edit
P5 = one 3 0 1 (1 ∶ 1 ∷ []) ∷ one 2 0 1 (1 ∶ 1 ∷ 5 ∶ 1 ∷ []) ∷ one 5 0 1 (1 ∶ 1 ∷ []) ∷ one 1 0 0 [] ∷ []

abbrev P6 : List Edit
P6 = one 7 0 1 (1 ∶ 1 ∷ []) ∷ one 2 0 1 (1 ∶ 1 ∷ 5 ∶ 1 ∷ []) ∷ one 5 0 1 (1 ∶ 1 ∷ []) ∷ one 1 0 0 [] ∷ []

-- text 0..5 by peer 1; then its delete of 2 at 1, and of 2 at 0; or peer 2's delete of 2 at 1
abbrev five : Edit
five = text 5 1 0 0 []

abbrev P7 : List Edit
P7 = five ∷ del 2 1 5 1 false (u 1 1) (1 ∶ 5 ∷ []) ∷ []

abbrev P8 : List Edit
P8 = P7 ++ (del 2 1 7 0 false (u 1 0) (1 ∶ 7 ∷ []) ∷ [])

abbrev P10 : List Edit
P10 = five ∷ del 2 2 0 1 false (u 1 1) (1 ∶ 5 ∷ []) ∷ []

-- rows that wrong scans fail: the first visible unit as origin right; holding never cleared; origin rights compared and not parent rights; no stop where
-- parent rights are equal, origin rights are not, and its peer is larger
abbrev hidden : List Edit
hidden = one 1 0 0 [] ∷ del 1 1 1 0 false (u 1 0) (1 ∶ 1 ∷ []) ∷ one 1 2 0 (1 ∶ 2 ∷ []) ∷ []

abbrev cleared : List Edit
cleared = one 2 0 0 [] ∷ one 1 0 0 [] ∷ one 1 1 0 (1 ∶ 1 ∷ []) ∷ one 2 1 0 (2 ∶ 1 ∷ []) ∷ []

abbrev parents : List Edit
parents = one 2 0 0 [] ∷ one 1 0 0 [] ∷ one 1 1 1 (1 ∶ 1 ∷ 2 ∶ 1 ∷ []) ∷ one 3 0 1 (1 ∶ 1 ∷ []) ∷ []

abbrev larger : List Edit
larger = one 2 0 0 [] ∷ one 1 0 0 [] ∷ one 2 1 1 (1 ∶ 1 ∷ 2 ∶ 1 ∷ []) ∷ one 1 1 1 (1 ∶ 1 ∷ []) ∷ []

-- ---------------------------------------------------------------- what a history shows

-- the first id, length and count of each span
abbrev spans : History → List (Id × ℕ × ℤ)
spans h = map (λ (s : FugueSpan). (s.id, len_of s.content, s.status.delete_times)) h.list

abbrev reals : History → List OptId
reals h = map (λ (v : FugueSpan). v.real_id) (expand h.list)

-- the delta of a history, in an output of exactly n entries
abbrev delta_in : ℕ → List Edit → Version → Version → List Entry
delta_in n es a b = (delta_of 65536 65536 (tab Retain 0 n) (run (new 0) es) a b).2

pub record Rows : Type 0 where
  pub p1 : arrivals 2 P1 ≡ times 2 (u 1 0 ∷ u 1 1 ∷ u 2 0 ∷ [])
  pub p1_tree : walked P1 ≡ u 1 0 ∷ u 1 1 ∷ u 2 0 ∷ []
  pub p2 : arrivals 3 P2 ≡ times 3 (u 1 0 ∷ u 3 0 ∷ u 1 1 ∷ u 2 0 ∷ [])
  pub p2_tree : walked P2 ≡ u 1 0 ∷ u 3 0 ∷ u 1 1 ∷ u 2 0 ∷ []
  pub p3 : arrivals 3 P3 ≡ times 3 (u 1 0 ∷ u 1 1 ∷ u 3 0 ∷ u 2 0 ∷ [])
  pub p3_tree : walked P3 ≡ u 1 0 ∷ u 1 1 ∷ u 3 0 ∷ u 2 0 ∷ []
  pub p5 : arrivals 4 P5 ≡ times 3 (u 1 0 ∷ u 3 0 ∷ u 2 0 ∷ u 5 0 ∷ [])
  pub p5_tree : walked P5 ≡ u 1 0 ∷ u 3 0 ∷ u 2 0 ∷ u 5 0 ∷ []
  pub p6 : arrivals 4 P6 ≡ times 3 (u 1 0 ∷ u 2 0 ∷ u 5 0 ∷ u 7 0 ∷ [])
  pub p6_tree : walked P6 ≡ u 1 0 ∷ u 2 0 ∷ u 5 0 ∷ u 7 0 ∷ []
  pub p7 : spans (run (new 0) P7) ≡ (u 1 0, 1, pos 0) ∷ (u 1 1, 2, pos 1) ∷ (u 1 3, 2, pos 0) ∷ []
  pub p7_shown : shown_ids (run (new 0) P7) ≡ u 1 0 ∷ u 1 3 ∷ u 1 4 ∷ []
  pub p8 : spans (run (new 0) P8) ≡ (u 1 0, 4, pos 1) ∷ (u 1 4, 1, pos 0) ∷ []
  pub p9 : reals (run (new 4) (del 2 9 0 1 false (u 9 40) [] ∷ [])) ≡ None ∷ Some (u 9 40) ∷ Some (u 9 41) ∷ None ∷ []
  pub p9_reversed : (run (new 4) (del 2 9 0 1 true (u 9 40) [] ∷ [])).list ≡ (run (new 4) (del 2 9 0 1 false (u 9 40) [] ∷ [])).list
  pub p10 : delta_in 2 P10 (1 ∶ 5 ∷ []) (1 ∶ 5 ∷ 2 ∶ 2 ∷ []) ≡ Retain 1 ∷ D.Delete 2 ∷ []
  pub p11 : delta_in 2 P10 (1 ∶ 5 ∷ 2 ∶ 2 ∷ []) (1 ∶ 5 ∷ []) ≡ Retain 1 ∷ D.Insert (chunk 1 3) (u 1 1) (Some 1) ∷ []
  pub origins : arrivals 3 hidden ≡ times 1 (u 1 2 ∷ u 1 0 ∷ [])
  pub origins_tree : walked hidden ≡ u 1 2 ∷ u 1 0 ∷ []
  pub holding : arrivals 4 cleared ≡ times 6 (u 1 1 ∷ u 1 0 ∷ u 2 1 ∷ u 2 0 ∷ [])
  pub holding_tree : walked cleared ≡ u 1 1 ∷ u 1 0 ∷ u 2 1 ∷ u 2 0 ∷ []
  pub rights : arrivals 4 parents ≡ times 5 (u 1 0 ∷ u 1 1 ∷ u 3 0 ∷ u 2 0 ∷ [])
  pub rights_tree : walked parents ≡ u 1 0 ∷ u 1 1 ∷ u 3 0 ∷ u 2 0 ∷ []
  pub equals : arrivals 4 larger ≡ times 5 (u 1 0 ∷ u 1 1 ∷ u 2 1 ∷ u 2 0 ∷ [])
  pub equals_tree : walked larger ≡ u 1 0 ∷ u 1 1 ∷ u 2 1 ∷ u 2 0 ∷ []

pub rows : Rows
unfolding history_open
rows =
    record {
      p1 = refl;
      p1_tree = refl;
      p2 = refl;
      p2_tree = refl;
      p3 = refl;
      p3_tree = refl;
      p5 = refl;
      p5_tree = refl;
      p6 = refl;
      p6_tree = refl;
      p7 = refl;
      p7_shown = refl;
      p8 = refl;
      p9 = refl;
      p9_reversed = refl;
      p10 = refl;
      p11 = refl;
      origins = refl;
      origins_tree = refl;
      holding = refl;
      holding_tree = refl;
      rights = refl;
      rights_tree = refl;
      equals = refl;
      equals_tree = refl;
    }
