-- What a `Book` holds: a state of interleaved calls without its lists, with how many rooms are out.
use Rattle.std.specs.Prelude.{◌≡◌, ℕ, suc, ◌+◌, ◌-◌, ◌<◌, Bool, true, false, not, ◌||◌, ◌&&◌, List}
use Rattle.std.specs.Prelude.{[], ◌∷◌, ◌++◌, length, map, Option, None, slice_get, slice_index_or}
use Rattle.std.specs.List.{AllByRecursion, list_any}
use Rattle.script_tree.specs.declared.limits.TheConstants.{SELECTORS}
use Rattle.script_tree.specs.declared.value.Value.{Value}
use Rattle.signal_graph.specs.declared.call.Call.{Call}
use Rattle.signal_graph.specs.declared.call.Call.TheVariants.{Fire, Read}
use Rattle.signal_graph.specs.declared.call.Reply.{Reply}
use Rattle.signal_graph.specs.declared.call.Reply.TheVariants.{Fire as Fired, Read as Seen}
use Rattle.signal_graph.specs.Graph.{Graph, numbers, node_at, inputs_of, is_in}
use Rattle.order_graph.specs.Order.{reaches, linked, retired}
use Rattle.flow_model.specs.Machine.Sets.{put, put_all, take_out}
use Rattle.flow_model.specs.Machine.Lists.{is_empty}
use Rattle.flow_model.specs.Machine.State.{LiveCall, call_of, call_or, change_call, opening, no_call}
use Rattle.std.specs.Prelude.{is_some}
use Rattle.flow_model.specs.Machine.Words.{gathered_of}
use Rattle.flow_model.specs.Parts.Books.{Book, Work, book_of, no_work}
use Rattle.flow_model.specs.Machine.Lists.{change_at}
use Rattle.flow_model.specs.Machine.Steps.{without_call, logged, nodes_set, free_slot}
use Rattle.flow_state.specs.Rooms.{Roomy}

-- what contracts see in a `Book`: `rooms` are out, and each node has room for so many gathered values
pub record Booked : Type 0 where
  pub book : Book
  pub rooms : ℕ
  pub room_for : List ℕ

-- a value is gathered for each input and each pick
abbrev pub room_at : Graph → ℕ → ℕ
room_at graph n = length (inputs_of (node_at graph n)) + SELECTORS

abbrev pub rooms_for : Graph → List ℕ
rooms_for graph = map (room_at graph) (numbers graph)

-- the book at opening
abbrev pub opened_book : Graph → ℕ → ℕ → Booked
opened_book graph callers limit = record { book = book_of (opening graph callers limit); rooms = 0; room_for = rooms_for graph }

-- ---- readings

abbrev pub call_in : Booked → ℕ → LiveCall
call_in book t = call_or (call_of book.book.calls t)

abbrev pub live_in : Booked → ℕ → Bool
live_in book t = is_some (call_of book.book.calls t)

-- the node that a live call looks at next
abbrev pub next_look_in : Booked → ℕ → Option ℕ
next_look_in book t = slice_get (call_in book t).looks (length (call_in book t).looked)

-- the live call at a place in the order of beginnings
abbrev pub call_nth : Booked → ℕ → LiveCall
call_nth book i = slice_index_or book.book.calls i no_call

abbrev pub node_count : Booked → ℕ
node_count book = length book.book.works

abbrev pub work_at : Booked → ℕ → Work
work_at book n = slice_index_or book.book.works n no_work

-- No two values are gathered of one node.
abbrev pub AreApart : List (ℕ × Value) → Type 0
AreApart [] = Unit {0}
AreApart (p ∷ ps) = (gathered_of p.0 ps ≡ None) × AreApart ps

-- Another call stops a live one: it comes behind that one, or frames while that one executes.
abbrev pub stops_in : Booked → ℕ → ℕ → Bool
stops_in book t u = reaches book.book.pairs t u || ((call_in book t).executing && (live_in book u && not (call_in book u).executing))

-- An executing call behind a live one wants the node.
abbrev pub pressed_in : Booked → ℕ → ℕ → Bool
pressed_in book t n = list_any (λ c. c.executing && (reaches book.book.pairs t c.version && is_in n c.wanted)) book.book.calls

-- ---- changes

abbrev pub with_book : Booked → Book → Booked
with_book booked book = record booked { book = book }

-- of one call
abbrev pub on_call : Booked → ℕ → (LiveCall → LiveCall) → Booked
on_call book t f = record book { book = record book.book { calls = change_call t f book.book.calls } }

-- of the work at one node
abbrev pub on_work : Booked → ℕ → (Work → Work) → Booked
on_work book n f = record book { book = record book.book { works = change_at n f book.book.works } }

-- The call has the node open, and wants it no more.
abbrev pub opened_one : ℕ → LiveCall → LiveCall
opened_one n c = record c { wanted = take_out n c.wanted; open_nodes = put n c.open_nodes }

-- The call wants the node, unless it is open for it.
abbrev pub wanting : ℕ → LiveCall → LiveCall
wanting n c = record c { wanted = elim (is_in n c.open_nodes) [ true ↦ c.wanted | false ↦ put n c.wanted ] }

-- a call's reply from what it has changed, evaluated and looked at
abbrev pub reply_with : ℕ → ℕ → List Value → Call → Reply
reply_with changed evaluated looked (Fire sets looks) = Fired changed evaluated looked
reply_with changed evaluated looked (Read looks) = Seen looked

-- the pairs with one of these two calls
abbrev pub link_calls : Booked → ℕ → ℕ → ℕ → Booked
link_calls book u v node = record book { book = record book.book { pairs = linked book.book.pairs u v node } }

-- the call and its reply join the log, and its pairs go
abbrev pub end_call : Booked → ℕ → Booked
end_call book t = record book {
  book = record book.book {
    calls = without_call t book.book.calls;
    pairs = retired book.book.pairs t;
    log = book.book.log ++ logged (call_in book t) ∷ [];
  };
}

-- a room goes out, and one comes back or is spent
abbrev pub one_room_more : Booked → Booked
one_room_more book = record book { rooms = suc book.rooms }

abbrev pub one_room_less : Booked → Booked
one_room_less book = record book { rooms = book.rooms - 1 }

-- all nodes that are set are below a size
abbrev pub AreInside : ℕ → List (ℕ × Value) → Type 0
AreInside size sets = AllByRecursion (λ (set : ℕ × Value). set.0 < size) sets

-- the record of a call that begins in a room
abbrev pub begun_call : Roomy → ℕ → ℕ → ℕ → Call → LiveCall
begun_call room caller version slot call = record {
  caller = caller;
  version = version;
  slot = slot;
  executing = is_empty (nodes_set room.sets);
  call = call;
  sets = room.sets;
  looks = room.looks;
  wanted = put_all (nodes_set room.sets) [];
  open_nodes = [];
  changed = [];
  evaluated = 0;
  looked = [];
}

-- the call that begins next in a book
abbrev pub next_call : Roomy → Booked → ℕ → Call → LiveCall
next_call room book caller call = begun_call room caller (suc book.book.begun) (free_slot book.book.callers 0 book.book.calls) call

-- a call begins, in a room
abbrev pub begin_call : Roomy → Booked → ℕ → Call → Booked
begin_call room book caller call = record book {
  book = record book.book { begun = suc book.book.begun; calls = book.book.calls ++ next_call room book caller call ∷ [] };
  rooms = book.rooms - 1;
}
