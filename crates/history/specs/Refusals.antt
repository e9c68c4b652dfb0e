-- Refusal numbers of the history's calls, computed on small inputs: each number that small inputs can reach, and the lowest where several apply.
use Rattle.std.specs.Prelude.{ℕ, ◌≡◌, refl, false, List, [], ◌∷◌, pos, negsuc, Some}
use Rattle.span.specs.declared.ids.Id.{Id}
use Rattle.span.specs.Chunk.{chunk}
use Rattle.span.specs.Ids.{id, UNKNOWN_PEER}
use Rattle.span.specs.Units.{tab}
use Rattle.units.specs.declared.diff.Entry.TheVariants.{Retain}
use Rattle.units.specs.declared.diff.Entry.TheVariants as D
use Rattle.std.specs.Prelude.{None}
use Rattle.history.specs.Edit.{Version, Insert, Edit, History}
use Rattle.apply.specs.declared.item.Item.{Item}
use Rattle.history.specs.Apply.{apply_code}
use Rattle.history.specs.Codes.{arrive_code, checkout_code, checkout_of, delta_code}
use Rattle.history.specs.Open.{history_open}
use Rattle.history.specs.Script.{◌∶◌, u, text, one, del, run, new}

-- text 0..3 by peer 1; peer 2 on {1:3} deletes 2 at 1
abbrev h : History
h = run (new 0) (text 3 1 0 0 [] ∷ del 2 2 0 1 false (u 1 1) (1 ∶ 3 ∷ []) ∷ [])

-- what h answers to an edit, to a checkout, and to a delta with an output of n entries
abbrev edit : Edit → ℕ
edit e = arrive_code 65536 65536 h e

abbrev seen : Version → ℕ
seen v = checkout_code 65536 65536 h v

abbrev delta : ℕ → Version → Version → ℕ
delta n a b = delta_code 65536 65536 (tab Retain 0 n) h a b

-- an insert of a chunk, with any id and lamport
abbrev put : Id → ℕ → ℕ → ℕ → Version → Edit
put i lamport s e v = record { id = i; at = 0; act = Insert lamport (chunk s e); context = v }

-- sixteen peers, one unit each
abbrev sixteen : History
sixteen = run (new 0) (tab (λ (p : ℕ). one p 0 0 []) 0 16)

-- P7's history, standing at its text alone; then P8's delete, in a room of so many spans
abbrev p7 : History
p7 = (checkout_of 65536 65536 (run (new 0) (text 5 1 0 0 [] ∷ del 2 1 5 1 false (u 1 1) (1 ∶ 5 ∷ []) ∷ [])) (1 ∶ 5 ∷ [])).1

abbrev p8 : ℕ → ℕ
p8 room = arrive_code room 65536 p7 (del 2 1 7 0 false (u 1 0) (1 ∶ 7 ∷ []))

abbrev one_left : List Item
one_left = record { id = u 1 0; content = chunk 0 1 } ∷ []

pub record Refusals : Type 0 where
  pub done : edit (one 1 3 3 (1 ∶ 3 ∷ [])) ≡ 0
  pub chunk1 : edit (put (id UNKNOWN_PEER (negsuc 0)) 0 5 5 (9 ∶ 9 ∷ [])) ≡ 1
  pub length1 : edit (del 0 1 3 0 false (u 1 0) []) ≡ 1
  pub peer2 : edit (put (id UNKNOWN_PEER (pos 0)) 0 0 1 []) ≡ 2
  pub counter2 : edit (put (id 1 (negsuc 0)) 0 0 1 []) ≡ 2
  pub lamport2 : edit (put (u 1 3) 4294967295 0 1 (1 ∶ 3 ∷ [])) ≡ 2
  pub target2 : edit (del 2 1 3 0 false (u 1 2147483646) (1 ∶ 3 ∷ [])) ≡ 2
  pub seventeenth4 : arrive_code 65536 65536 sixteen (one 16 5 0 []) ≡ 4
  pub sixteenth : arrive_code 65536 65536 sixteen (one 15 1 0 (15 ∶ 1 ∷ [])) ≡ 0
  pub counter5 : edit (one 3 1 0 (9 ∶ 9 ∷ [])) ≡ 5
  pub negative6 : seen (record { peer = 1; many = negsuc 0 } ∷ []) ≡ 6
  pub zero6 : seen (1 ∶ 0 ∷ []) ≡ 6
  pub order6 : seen (2 ∶ 2 ∷ 1 ∶ 3 ∷ []) ≡ 6
  pub held6 : seen (1 ∶ 4 ∷ []) ≡ 6
  pub unknown6 : seen (UNKNOWN_PEER ∶ 1 ∷ []) ≡ 6
  pub lower6 : delta 0 (2 ∶ 2 ∷ []) (1 ∶ 4 ∷ []) ≡ 6
  pub open7 : seen (1 ∶ 2 ∷ 2 ∶ 2 ∷ []) ≡ 7
  pub inside7 : seen (1 ∶ 3 ∷ 2 ∶ 1 ∷ []) ≡ 7
  pub own7 : edit (one 1 3 9 (1 ∶ 2 ∷ [])) ≡ 7
  pub inside : seen (1 ∶ 2 ∷ []) ≡ 0
  pub past8 : edit (one 3 0 2 (1 ∶ 3 ∷ 2 ∶ 2 ∷ [])) ≡ 8
  pub length8 : edit (del 2 3 0 0 false (u 1 0) (1 ∶ 3 ∷ 2 ∶ 2 ∷ [])) ≡ 8
  -- P8's list has two spans afterwards, but three at its context
  pub context10 : p8 2 ≡ 10
  pub context : p8 3 ≡ 0
  pub targets10 : arrive_code 65536 1 h (del 1 3 0 0 false (u 1 0) (1 ∶ 3 ∷ [])) ≡ 10
  pub short13 : delta 1 (1 ∶ 3 ∷ []) (1 ∶ 3 ∷ 2 ∶ 2 ∷ []) ≡ 13
  pub lent : delta 2 (1 ∶ 3 ∷ []) (1 ∶ 3 ∷ 2 ∶ 2 ∷ []) ≡ 0
  pub units15 : arrive_code 65536 65536 (record { placeholder = 1; list = h.list; held = h.held }) (del 0 1 3 0 false (u 1 0) []) ≡ 15
  pub targets15 : arrive_code 65536 65536 (record { placeholder = 0; list = h.list; held = [] }) (del 0 1 3 0 false (u 1 0) []) ≡ 15
  -- the applier: the lowest number over the whole input
  pub entry1 : apply_code [] (Some (Retain 9) ∷ Some (D.Insert (chunk 5 5) (u 1 0) None) ∷ []) one_left ≡ 1
  pub entry2 : apply_code [] (None ∷ Some (D.Insert (chunk 5 6) (id UNKNOWN_PEER (pos 0)) None) ∷ []) one_left ≡ 2
  pub past14 : apply_code [] (Some (Retain 1) ∷ Some (D.Delete 1) ∷ []) one_left ≡ 14
  pub kind14 : apply_code [] (None ∷ []) one_left ≡ 14
  pub empty14 : apply_code [] (Some (Retain 0) ∷ []) one_left ≡ 14
  pub long14 : apply_code [] [] (record { id = u 1 0; content = chunk 0 2 } ∷ []) ≡ 14
  pub out13 : apply_code [] [] one_left ≡ 13

pub refusals : Refusals
unfolding history_open
refusals =
    record {
      done = refl;
      chunk1 = refl;
      length1 = refl;
      peer2 = refl;
      counter2 = refl;
      lamport2 = refl;
      target2 = refl;
      seventeenth4 = refl;
      sixteenth = refl;
      counter5 = refl;
      negative6 = refl;
      zero6 = refl;
      order6 = refl;
      held6 = refl;
      unknown6 = refl;
      lower6 = refl;
      open7 = refl;
      inside7 = refl;
      own7 = refl;
      inside = refl;
      past8 = refl;
      length8 = refl;
      context10 = refl;
      context = refl;
      targets10 = refl;
      short13 = refl;
      lent = refl;
      units15 = refl;
      targets15 = refl;
      entry1 = refl;
      entry2 = refl;
      past14 = refl;
      kind14 = refl;
      empty14 = refl;
      long14 = refl;
      out13 = refl;
    }
