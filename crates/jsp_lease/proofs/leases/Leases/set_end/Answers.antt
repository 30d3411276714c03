use Rattle.std.proofs.Common.{◌≡◌, ℕ, refl, ◌∙◌, sym, ap, List, [], ◌∷◌, true, false, Bool, cond, Some, None, length}
use Rattle.jsp_lease.specs.declared.item.Item.{Item}
use Rattle.jsp_lease.specs.Leases.{Leased, ending_at, is_numbered, item_numbered, with_items}
use Rattle.jsp_lease.specs.Tournament.{living}
use Rattle.jsp_lease.proofs.Standing.{ends_then, seen}
use Rattle.jsp_lease.proofs.leases.Leases.set_end.Goals as goal

none_ends : (number end : ℕ) (items : List Item) → item_numbered number items ≡ None → ending_at number end items ≡ items
none_ends number end [] h = refl
none_ends number end (i ∷ items) h = at (is_numbered number i) refl (none_ends number end items) where
  at : (b : Bool) → is_numbered number i ≡ b → (item_numbered number items ≡ None → ending_at number end items ≡ items) → ending_at number end (i ∷ items) ≡ i ∷ items
  at true e rest = absurd (cc (h, ap (λ b. cond b (Some i) (item_numbered number items)) e))
  at false e rest = rw e (ap (λ w. i ∷ w) (rest (ap (λ b. cond b (Some i) (item_numbered number items)) (sym e) ∙ h)))

pub returns-in_default : goal.returns-in_default
returns-in_default c =
    let leases : Leased = c.args.self.now in
    let none : item_numbered c.args.number leases.items ≡ None = ap (λ (l : Leased). item_numbered c.args.number l.items) (sym c.self.view_is) ∙ c.in_default.ensures.none in
    sym (ap (with_items leases) (none_ends c.args.number c.args.end leases.items none))

pub returns : goal.returns
returns c =
    let end = c.args.end in
    let is = ends_then c.self.inside.tournament c.args.number c.in-Some.place end c.in-Some.item c.in-Some.ensures.some in
    rw (c.set.ensures, ← c.self.view_is)
    (seen c.self.inside.tournament c.in-Some.place c.self.inside.last (length c.self.inside.numbers.items) (Some (record c.in-Some.item { end = end })) (ending_at c.args.number end (living c.self.inside.tournament)) is)
