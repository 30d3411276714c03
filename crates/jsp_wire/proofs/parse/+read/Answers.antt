use Rattle.std.proofs.Common.{◌≡◌, ◌-◌, ◌<◌, [], ◌∷◌, length, Some, None, inl, inr, sym, ap, ◌∙◌, arith}
use Rattle.json.specs.Json.{parse_map, after_end_array, read_key, items, members, value}
use Rattle.json.specs.Reads.{token_of}
use Rattle.json.proofs.Grammar.{value_is, read_key-shorter}
use Rattle.serde_json.specs.Data.{array, object}
use Rattle.serde_json.specs.Read.{of_json, of_items, converted}
use Rattle.jsp_wire.specs.Tree.{view, members_view}
use Rattle.jsp_wire.proofs.Converted.{items-read, items-refused, items-over, members-read, members-refused, members-no_key, members-over, joined}
use Rattle.jsp_wire.proofs.Turns.{items_before, items_before-no_items, one_more, reads-empty, reads-no_depth, reads-array, reads-object, reads-null, reads-boolean, reads-string, reads-number, reads-no_number, view-List, view-Object, view-Null, view-Bool, view-Number, view-Text}
use Rattle.jsp_wire.proofs.parse.+read.Goals as goal

-- ---- a value

pub value-returns-in_err-token-clause-refused : goal.value-returns-in_err-token-clause-refused
value-returns-in_err-token-clause-refused t c refused =
    let empty : c.args.reader.now ≡ [] = grind arith in
    reads-empty c.args.depth c.args.reader.now empty

pub value-returns-then-depth-eq0-clause-refused : goal.value-returns-then-depth-eq0-clause-refused
value-returns-then-depth-eq0-clause-refused t c refused =
    let first : c.args.reader.now ≡ token_of c.in_ok-token.token ∷ c.next.new.self = grind arith in
    reads-no_depth c.args.depth c.args.reader.now c.next.new.self _ (omega arith) first (inl (ap token_of c.in-BeginArray.is))

pub value-returns-then-depth-eq0-2-clause-refused : goal.value-returns-then-depth-eq0-2-clause-refused
value-returns-then-depth-eq0-2-clause-refused t c refused =
    let first : c.args.reader.now ≡ token_of c.in_ok-token.token ∷ c.next.new.self = grind arith in
    reads-no_depth c.args.depth c.args.reader.now c.next.new.self _ (omega arith) first (inr (ap token_of c.in-BeginObject.is))

pub value-returns-in_err-list-in-BeginArray-clause-refused : goal.value-returns-in_err-list-in-BeginArray-clause-refused
value-returns-in_err-list-in-BeginArray-clause-refused t c refused =
    let rest = c.next.new.self in
    let first : c.args.reader.now ≡ token_of c.in_ok-token.token ∷ rest = grind arith in
    reads-array c.args.depth c.args.reader.now rest (omega arith) (first ∙ ap (λ k. token_of k ∷ rest) c.in-BeginArray.is)
    ∙ ap (parse_map array) (c.list.ensures.refused (grind arith))

pub value-returns-in_err-object-in-BeginObject-clause-refused : goal.value-returns-in_err-object-in-BeginObject-clause-refused
value-returns-in_err-object-in-BeginObject-clause-refused t c refused =
    let rest = c.next.new.self in
    let first : c.args.reader.now ≡ token_of c.in_ok-token.token ∷ rest = grind arith in
    reads-object c.args.depth c.args.reader.now rest (omega arith) (first ∙ ap (λ k. token_of k ∷ rest) c.in-BeginObject.is)
    ∙ ap (parse_map object) (c.object.ensures.refused (grind arith))

pub value-returns-in-Null-clause-ok : goal.value-returns-in-Null-clause-ok
value-returns-in-Null-clause-ok t c =
    let rest = c.next.new.self in
    let first : c.args.reader.now ≡ token_of c.in_ok-token.token ∷ rest = grind arith in
    reads-null c.args.depth c.args.reader.now rest (first ∙ ap (λ k. token_of k ∷ rest) c.in-Null.is) ∙ ap (λ d. Some (d, rest)) (sym view-Null)

pub value-returns-in-Bool-clause-ok : goal.value-returns-in-Bool-clause-ok
value-returns-in-Bool-clause-ok t c =
    let rest = c.next.new.self in
    let first : c.args.reader.now ≡ token_of c.in_ok-token.token ∷ rest = grind arith in
    reads-boolean c.args.depth c.args.reader.now rest c.in-Bool.b (first ∙ ap (λ k. token_of k ∷ rest) c.in-Bool.is) ∙ ap (λ d. Some (d, rest)) (sym (view-Bool c.in-Bool.b))

pub value-returns-in-Some-clause-ok : goal.value-returns-in-Some-clause-ok
value-returns-in-Some-clause-ok t c =
    let rest = c.next.new.self in
    let first : c.args.reader.now ≡ token_of c.in_ok-token.token ∷ rest = grind arith in
    let is = first ∙ ap (λ k. token_of k ∷ rest) c.in-Number.is in
    reads-number c.args.depth c.args.reader.now rest c.in-Number.text.now _ is (sym c.in-Some.ensures) ∙ ap (λ d. Some (d, rest)) (sym (view-Number c.in-Some.number))

pub value-returns-in-None-clause-refused : goal.value-returns-in-None-clause-refused
value-returns-in-None-clause-refused t c refused =
    let rest = c.next.new.self in
    let first : c.args.reader.now ≡ token_of c.in_ok-token.token ∷ rest = grind arith in
    reads-no_number c.args.depth c.args.reader.now rest c.in-Number.text.now (first ∙ ap (λ k. token_of k ∷ rest) c.in-Number.is) (sym c.in-None.ensures)

pub value-returns-in-String-clause-ok : goal.value-returns-in-String-clause-ok
value-returns-in-String-clause-ok t c =
    let rest = c.next.new.self in
    let first : c.args.reader.now ≡ token_of c.in_ok-token.token ∷ rest = grind arith in
    reads-string c.args.depth c.args.reader.now rest c.in-String.text.now (first ∙ ap (λ k. token_of k ∷ rest) c.in-String.is) ∙ ap (λ d. Some (d, rest)) (sym (view-Text c.in-String.text))

pub value-returns-in_ok-list-in-BeginArray-clause-ok : goal.value-returns-in_ok-list-in-BeginArray-clause-ok
value-returns-in_ok-list-in-BeginArray-clause-ok t c =
    let rest = c.next.new.self in
    let first : c.args.reader.now ≡ token_of c.in_ok-token.token ∷ rest = grind arith in
    let found = c.in_ok-list-in-BeginArray in
    reads-array c.args.depth c.args.reader.now rest (omega arith) (first ∙ ap (λ k. token_of k ∷ rest) c.in-BeginArray.is)
    ∙ ap (parse_map array) found.ensures.ok ∙ ap (λ d. Some (d, c.list.new.reader)) (sym (view-List found.field-0))

pub value-returns-in_ok-object-in-BeginObject-clause-ok : goal.value-returns-in_ok-object-in-BeginObject-clause-ok
value-returns-in_ok-object-in-BeginObject-clause-ok t c =
    let rest = c.next.new.self in
    let first : c.args.reader.now ≡ token_of c.in_ok-token.token ∷ rest = grind arith in
    let found = c.in_ok-object-in-BeginObject in
    reads-object c.args.depth c.args.reader.now rest (omega arith) (first ∙ ap (λ k. token_of k ∷ rest) c.in-BeginObject.is)
    ∙ ap (parse_map object) found.ensures.ok ∙ ap (λ d. Some (d, c.object.new.reader)) (sym (view-Object found.field-0))

pub value-returns-in-EndArray-clause-refused : goal.value-returns-in-EndArray-clause-refused
value-returns-in-EndArray-clause-refused t c refused =
    let first : c.args.reader.now ≡ token_of c.in_ok-token.token ∷ c.next.new.self = grind arith in
    let none : value c.args.depth c.args.reader.now ≡ None = rw (value_is c.args.depth c.args.reader.now, first) (grind arith) in
    ap (converted of_json) none

-- ---- the items of an array

pub list-items-preserved : goal.list-items-preserved
list-items-preserved t c =
    let p = value c.args.depth in
    let l = c.items in
    let n = l.invariant.0 in
    let going : (after_end_array l.reader ≡ None) × (c.take_end_array.new.self ≡ l.reader) = grind arith in
    let done = c.in_ok-item.ensures in
    let tree = c.in_ok-item.item in
    let rest = c.value.new.reader in
    let less : length rest < length l.reader = rw (← going.1) done.shorter in
    let turn = items-read p n l.reader rest (view tree) (omega (arith, l.invariant.1)) going.0 (rw (← going.1) done.ok) in (
      n - 1,
      omega (arith, l.invariant.1),
      l.invariant.2 ∙ ap (parse_map (items_before l.found.items)) turn ∙ one_more l.found.items tree _
          ∙ ap (λ ts. parse_map (items_before ts) (converted of_items (items p (n - 1) rest))) (sym c.in_ok-push.ensures.items),
      omega (arith, l.invariant.3),
    )

pub list-returns-in_err-item-clause-refused : goal.list-returns-in_err-item-clause-refused
list-returns-in_err-item-clause-refused t c refused =
    let l = c.items in
    let going : (after_end_array l.reader ≡ None) × (c.take_end_array.new.self ≡ l.reader) = grind arith in
    l.invariant.2 ∙ ap (parse_map (items_before l.found.items)) (items-refused (value c.args.depth) l.invariant.0 l.reader going.0 (rw (← going.1) (c.value.ensures.refused (grind arith))))

pub list-returns-clause-ok : goal.list-returns-clause-ok
list-returns-clause-ok t c =
    let l = c.items in
    let rest = c.take_end_array.new.self in
    l.invariant.2 ∙ ap (parse_map (items_before l.found.items)) (items-over (value c.args.depth) l.invariant.0 l.reader rest l.invariant.1 (grind arith)) ∙ ap (λ ds. Some (ds, rest)) (items_before-no_items l.found.items)

-- ---- the members of an object

pub object-returns-in_default-clause-refused : goal.object-returns-in_default-clause-refused
object-returns-in_default-clause-refused t c refused =
    let l = c.members in
    let none : read_key l.reader ≡ None = grind arith in
    l.invariant.2 ∙ members-no_key (value c.args.depth) (members_view l.found.items) l.invariant.0 l.reader none

pub object-returns-in_default-key-clause-ok : goal.object-returns-in_default-key-clause-ok
object-returns-in_default-key-clause-ok t c =
    let l = c.members in
    let end : read_key l.reader ≡ Some (None, c.next_key.new.self) = grind arith in
    l.invariant.2 ∙ members-over (value c.args.depth) (members_view l.found.items) l.invariant.0 l.reader c.next_key.new.self l.invariant.1 end

pub object-returns-in_err-member-clause-refused : goal.object-returns-in_err-member-clause-refused
object-returns-in_err-member-clause-refused t c refused =
    let l = c.members in
    let k = c.in-Some.key.now in
    let s = c.next_key.new.self in
    let key : read_key l.reader ≡ Some (Some k, s) = grind arith in
    l.invariant.2 ∙ members-refused (value c.args.depth) (members_view l.found.items) l.invariant.0 k l.reader s key (c.value.ensures.refused (grind arith))

pub object-members-preserved : goal.object-members-preserved
object-members-preserved t c =
    let p = value c.args.depth in
    let l = c.members in
    let n = l.invariant.0 in
    let old = members_view l.found.items in
    let k = c.in-Some.key.now in
    let s = c.next_key.new.self in
    let key : read_key l.reader ≡ Some (Some k, s) = grind arith in
    let done = c.in_ok-member.ensures in
    let tree = c.in_ok-member.member in
    let rest = c.value.new.reader in
    let less = read_key-shorter l.reader (Some k) s key in
    let lesser = done.shorter in (
      n - 1,
      omega (arith, l.invariant.1),
      l.invariant.2 ∙ members-read p old n k l.reader s rest (view tree) (omega (arith, l.invariant.1)) key done.ok
          ∙ ap (λ found. joined found (members p (n - 1) rest)) (sym c.in_ok-put.ensures),
      omega (arith, l.invariant.3),
    )
