-- a call of a history, from the call beneath and the line said of its number
use Rattle.std.proofs.Common.{◌≡◌, ℕ, List, take, replicate, ◌∙◌}
use Rattle.tracker.specs.declared.row.Head.{Head}
use Rattle.tracker.specs.Rows.{to_edit}
use Rattle.tracker.specs.Entries.{version_of, Leaves, arrive_number, arrived, checkout_number, checked_out}
use Rattle.rope.specs.Maybe.{DiffAnswer}
use Rattle.units.specs.Delta.{entries}
use Rattle.tracker.specs.Between.{between, Deltas}
use Rattle.session.specs.Say.{Says}
use Rattle.session.specs.Lines.{done_lines}
use Rattle.session.specs.Entries.{delta_lines}
use Rattle.session.specs.Columns.{pairs_taken, peers_in, counts_in, word_peers, word_counts}
use Rattle.session.specs.History.{Arrives, Goes, telling_number, Tells}

-- the fronts of the columns that a word was put into
module _ (w : List ℕ) {n : ℕ} {f q : List ℕ} (e : n ≡ pairs_taken w) (t : f ≡ take n q) where
  pub front_peers : q ≡ peers_in w (replicate 32 0) → f ≡ word_peers w
  unfolding word_peers
  front_peers p = t ∙ rw (e, p)

  pub front_counts : q ≡ counts_in w (replicate 32 0) → f ≡ word_counts w
  unfolding word_counts
  front_counts p = t ∙ rw (e, p)

module _ (w s t e : List ℕ) (at : ℕ) (text : List ℕ) {r j : ℕ} {f g text' : List ℕ} (p : f ≡ word_peers w) (q : g ≡ word_counts w) (m : Says at (done_lines j) text r text') where
  pub is_arriving : (x : Head) {s' t' e' : List ℕ} → Leaves (arrive_number s t e (to_edit x (version_of f g))) (arrived s t e (to_edit x (version_of f g))) j s t e s' t' e'
      → Arrives x w s t e at text r s' t' e' text'
  is_arriving x v = let u = rw (p, q) at v in record { leaves = rw u.number at u; says = rw u.number at m }

  pub is_going : {s' : List ℕ} → Leaves (checkout_number s t e (version_of f g)) (checked_out s t e (version_of f g)) j s t e s' t e
      → Goes w s t e at text r s' text'
  is_going v = let u = rw (p, q) at v in record { leaves = rw u.number at u; says = rw u.number at m }

-- a delta between two words' versions
module _ (v w s t e : List ℕ) (most : ℕ) {r : DiffAnswer} {s' k x y p c l k2 x2 y2 p2 c2 l2 : List ℕ} where
  pub deltas_as : {f g f2 g2 : List ℕ} → f ≡ word_peers v → g ≡ word_counts v → f2 ≡ word_peers w → g2 ≡ word_counts w
      → Deltas s t e (version_of f g) (version_of f2 g2) most r s' k x y p c l k2 x2 y2 p2 c2 l2
      → Deltas s t e (version_of (word_peers v) (word_counts v)) (version_of (word_peers w) (word_counts w)) most r s' k x y p c l k2 x2 y2 p2 c2 l2
  deltas_as e1 e2 e3 e4 d = rw (e1, e2, e3, e4) at d

  pub is_telling : (at : ℕ) (text : List ℕ) {q : ℕ} {text' : List ℕ}
      → Deltas s t e (version_of (word_peers v) (word_counts v)) (version_of (word_peers w) (word_counts w)) most r s' k x y p c l k2 x2 y2 p2 c2 l2
      → Says at (delta_lines (telling_number most v w s t e) (entries (between s t e (version_of (word_peers v) (word_counts v)) (version_of (word_peers w) (word_counts w))))) text q text'
      → Tells most v w s t e at text q s' text'
  is_telling at text d m = record { leaves = rw d.leaves.number at d.leaves; says = m }

pub tells_as : (v w s t e : List ℕ) (at : ℕ) (text : List ℕ) {m n r : ℕ} {s' text' : List ℕ} → m ≡ n → Tells m v w s t e at text r s' text' → Tells n v w s t e at text r s' text'
tells_as v w s t e at text h d = rw h at d

-- the same of the words of a line
module _ (s t e : List ℕ) (at : ℕ) (text : List ℕ) {v w : List ℕ} {r : ℕ} {s' text' : List ℕ} (h : v ≡ w) where
  pub arrives_as : {x y : Head} {t' e' : List ℕ} → x ≡ y → Arrives x v s t e at text r s' t' e' text' → Arrives y w s t e at text r s' t' e' text'
  arrives_as g d = rw (g, h) at d

  pub goes_as : Goes v s t e at text r s' text' → Goes w s t e at text r s' text'
  goes_as d = rw h at d
