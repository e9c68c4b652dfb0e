-- Lines of docs/SCRIPT.md, what they say, and lines of answers, computed.
use Rattle.std.specs.Prelude.{◌≡◌, refl, true, false, [], ◌∷◌, ◌++◌, None, Some, pos, negsuc}
use Rattle.text.specs.Ascii.{ascii}
use Rattle.text.specs.Parts.{rest, parts}
use Rattle.text.specs.Numbers.{is_digit, all_digits, value, up_to, decimal_of, places, numeral, int_text, int_of, fit}
use Rattle.span.specs.Chunk.{by_start, chunk, move_chunk}
use Rattle.span.specs.Ids.{id, UNKNOWN_PEER}
use Rattle.units.specs.declared.change.SetFuture.TheVariants as Set
use Rattle.script.specs.declared.call.RopeCall.TheVariants as Rope
use Rattle.script.specs.declared.call.HistoryCall.TheVariants as History
use Rattle.script.specs.declared.call.Look.TheVariants as Look
use Rattle.script.specs.declared.call.Call.TheVariants.{Room, Empty, New, Rope, History, Look}
use Rattle.script.specs.Field.{peer_of, id_from, opt_word, status_from, status_word, diff_word, change_word, flag_word, raw_from, two_words, three_words, one_word, chunk_by, span_of}
use Rattle.script.specs.Print.{peer_text, number_text, id_text, opt_id_text, status_text, opt_status_text, named_text, value_text, span_text, head_line, unit_line, item_line, at_line}
use Rattle.script.specs.Version.{pair_count, pair_of, pairs_from, is_version}
use Rattle.script.specs.Call.{insert_from, delete_from, deleting_of, arriving_of, set_word, updating_of, ins_of, del_of, two_versions, row_of, alone_of, numbered_of, pair_call, several_of, call_by, call_of}

pub record Rows : Type 0 where
  -- one word; a name and a number, leading zeros taken
  pub empty : call_of (ascii "empty") ≡ Some Empty
  pub sum : call_of (ascii "sum") ≡ Some (Look Look.Sum)
  pub room : call_of (ascii "room 0005") ≡ Some (Room 5)
  pub new : call_of (ascii "new 4294967295") ≡ Some (New 4294967295)
  pub at : call_of (ascii "at 0") ≡ Some (Look (Look.At 0))
  -- a rope's edits
  pub insert : call_of (ascii "insert 3 U -1 7 text 5 5") ≡ Some (Rope (Rope.Insert (record { pos = 3; id = id UNKNOWN_PEER (negsuc 0); lamport = 7; content = chunk 5 5 })))
  pub delete : call_of (ascii "delete 1 2 3 4 1") ≡ Some (Rope (Rope.Delete (record { pos = 1; len = 2; start = id 3 (pos 4); reversed = true })))
  pub update : call_of (ascii "update 1 0 3 keep -32768 0")
      ≡ Some (Rope (Rope.Update (record { from = id 1 (pos 0); to = id 1 (pos 3); future = Set.Keep; change = negsuc 32767; on_diff = false })))
  -- a history's
  pub ins : call_of (ascii "ins - 0 1 0 0 move") ≡ Some (History (History.Insert (record { pos = 0; id = id 1 (pos 0); lamport = 0; content = move_chunk })))
  pub del : call_of (ascii "del 1:2,3:1 0 1 2 0 1 5 0")
      ≡ Some (History (History.Delete (record { id = id 2 (pos 0); delete = record { pos = 0; len = 1; start = id 1 (pos 5); reversed = false } })))
  pub checkout : call_of (ascii "checkout 1:2,3:1") ≡ Some (History History.Checkout)
  pub delta : call_of (ascii "delta - 1:1") ≡ Some (History History.Delta)
  pub applied : call_of (ascii "applied 1:1 -") ≡ Some (History History.Applied)
  -- a row of SCRIPT.md's example, its chunk as two numbers
  pub row : call_of (ascii "row 2 1.1 1 1.1 future:0 - 1.0 - 1 2")
      ≡ Some (Look (Look.Row 2 (record {
        id = id 1 (pos 1);
        lamport = 1;
        real_id = Some (id 1 (pos 1));
        status = record { future = true; delete_times = pos 0 };
        diff_status = None;
        origin_left = Some (id 1 (pos 0));
        origin_right = None;
        content = chunk 1 2;
      })))
  -- no call: an unknown name, two blanks in a row, a word too many or too few, a number past its type, a sign where there is none
  pub unknown : call_of (ascii "rooms 5") ≡ None
  pub nothing : call_of (ascii "") ≡ None
  pub blanks : call_of (ascii "insert 0  1 0 0 move") ≡ None
  pub many : call_of (ascii "delete 0 1 1 0 0 0") ≡ None
  pub few : call_of (ascii "insert 0 1 0 0") ≡ None
  pub past : call_of (ascii "room 4294967296") ≡ None
  pub past_counter : call_of (ascii "insert 0 1 2147483648 0 move") ≡ None
  pub past_change : call_of (ascii "update 1 0 3 now 32768 0") ≡ None
  pub sign : call_of (ascii "room -1") ≡ None
  pub flag : call_of (ascii "delete 0 1 1 0 00") ≡ None
  -- versions that are none
  pub no_version : call_of (ascii "checkout 1:2,") ≡ None
  pub no_context : call_of (ascii "ins 1.2 0 1 0 0 move") ≡ None
  pub one_version : call_of (ascii "delta 1:1") ≡ None

-- lines of answers
pub record Answers : Type 0 where
  pub refused : head_line (ascii "no") 15 ≡ ascii "no 15" ++ (10 ∷ [])
  pub unit : unit_line (record {
    id = id 1 (pos 1);
    lamport = 1;
    real_id = Some (id 1 (pos 1));
    status = record { future = true; delete_times = pos 0 };
    diff_status = None;
    origin_left = Some (id 1 (pos 0));
    origin_right = None;
    content = chunk 1 2;
  })
      ≡ ascii "unit 1.1 1 1.1 future:0 - 1.0 - text 1 2" ++ (10 ∷ [])
  -- the unknown peer, a counter and a count below zero
  pub item : item_line (id UNKNOWN_PEER (negsuc 2147483647)) move_chunk ≡ ascii "item U.-2147483648 move" ++ (10 ∷ [])
  pub diff : opt_status_text (Some (record { future = false; delete_times = negsuc 0 })) ≡ ascii " now:-1"
  pub at : at_line (id 0 (pos 0)) 4294967295 ≡ ascii "at 0.0 4294967295" ++ (10 ∷ [])

pub answers_hold : Answers
unfolding places numeral int_text peer_text number_text id_text opt_id_text status_text opt_status_text named_text value_text span_text head_line unit_line item_line at_line by_start
answers_hold = record { refused = refl; unit = refl; item = refl; diff = refl; at = refl }

pub rows_hold : Rows
unfolding rest parts is_digit all_digits value up_to decimal_of int_of fit peer_of id_from opt_word status_from status_word diff_word change_word flag_word raw_from two_words three_words one_word chunk_by span_of pair_count pair_of pairs_from is_version insert_from delete_from deleting_of arriving_of set_word updating_of ins_of del_of two_versions row_of alone_of numbered_of pair_call several_of call_by
rows_hold =
    record {
      empty = refl;
      sum = refl;
      room = refl;
      new = refl;
      at = refl;
      insert = refl;
      delete = refl;
      update = refl;
      ins = refl;
      del = refl;
      checkout = refl;
      delta = refl;
      applied = refl;
      row = refl;
      unknown = refl;
      nothing = refl;
      blanks = refl;
      many = refl;
      few = refl;
      past = refl;
      past_counter = refl;
      past_change = refl;
      sign = refl;
      flag = refl;
      no_version = refl;
      no_context = refl;
      one_version = refl;
    }
