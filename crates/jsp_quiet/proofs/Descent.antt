-- A declaration changes no line of descent of a declared class.
use Rattle.std.proofs.Common.{◌≡◌, refl, sym, ap, ◌∙◌, ℕ, List, [], ◌∷◌, ◌++◌, Bool, true, false, cond, ◌&&◌, ◌||◌, Option, Some, None, ◌==◌, if◌then◌else◌, bytes_eq}
use Rattle.std.specs.List.{list_any, list_all}
use Rattle.std.specs.Option.{option_or, option_and_then}
use Rattle.std.proofs.lemmas.List.Folds.{find-append}
use Rattle.std.proofs.lemmas.Bool.{not-false}
use Rattle.jsp_types.specs.declared.class.Class.{Class}
use Rattle.jsp_types.specs.declared.entry.Entry.{Entry}
use Rattle.jsp_types.specs.declared.entry.Template.{Template}
use Rattle.jsp_types.specs.declared.entry.Template.TheVariants.{Any, Like}
use Rattle.jsp_types.specs.Classes.{class_named, is_declared, is_new, lacks_parent, declared}
use Rattle.jsp_types.specs.Matching.{matches, is_null, value_eq, value_at}
use Rattle.jsp_types.proofs.Growing.{HasParents, is_declared-grown, line_up_to-grown}
use Rattle.jsp_model.specs.declared.state.State.{State}
use Rattle.jsp_model.specs.declared.state.Row.{Row}
use Rattle.jsp_model.specs.declared.state.Blocked.{Blocked}
use Rattle.jsp_model.specs.Sight.{is_take, takeable, readable, conflicts}
use Rattle.jsp_model.specs.Quiet.{is_quiet}
use Rattle.jsp_laws.proofs.Lists.{Each, each_weaker}
use Rattle.jsp_quiet.specs.Steady.{RowFits, IsPlaced}
use Rattle.jsp_quiet.proofs.Lists.{filter_alike, any_alike}
use Rattle.jsp_quiet.proofs.Still.{waits, Quiet, quiet_parts, quiet_from, there_alike}

parents_grown : (classes : List Class) (c : Class) → is_new classes c ≡ true → lacks_parent classes c ≡ false → HasParents classes → HasParents (classes ++ c ∷ [])
parents_grown classes c new lacks h name p e =
    is_declared-grown classes c p (old (class_named classes name) refl (ap (option_and_then (λ d. d.parent)) (sym (find-append (λ d. bytes_eq d.name name) classes (c ∷ []))) ∙ e))
  where
    its : c.parent ≡ Some p → is_declared classes p ≡ true
    its k = not-false (is_declared classes p) (rw (new, k) at lacks)

    this : (b : Bool) → option_and_then (λ (d : Class). d.parent) (cond b (Some c) None) ≡ Some p → is_declared classes p ≡ true
    this true k = its k
    this false k = absurd (cc)

    old : (o : Option Class) → class_named classes name ≡ o → option_and_then (λ (d : Class). d.parent) (option_or o (class_named (c ∷ []) name)) ≡ Some p → is_declared classes p ≡ true
    old (Some d) k q = h name p (ap (option_and_then (λ (d : Class). d.parent)) k ∙ q)
    old None k q = this (bytes_eq c.name name) q

-- the classes after a declaration that isn't refused
pub record Declares (classes after : List Class) : Type 0 where
  pub declared : (name : List ℕ) → is_declared classes name ≡ true → is_declared after name ≡ true
  pub parents : HasParents classes → HasParents after
  pub matches : HasParents classes → (t : Template) (e : Entry) → is_declared classes e.class ≡ true → matches after t e ≡ matches classes t e

pub matches_grown : (classes : List Class) (c : Class) → HasParents classes → (t : Template) (e : Entry) → is_declared classes e.class ≡ true → matches (classes ++ c ∷ []) t e ≡ matches classes t e
matches_grown classes c h Any e d = refl
matches_grown classes c h (Like t) e d =
    ap (λ line. list_any (bytes_eq t.class) line && list_all (λ f. is_null f.1 || value_eq f.1 (value_at e.fields f.0)) t.fields)
    (line_up_to-grown 16 classes c e.class h d)

pub declares : (classes : List Class) (c : Class) → lacks_parent classes c ≡ false → Declares classes (declared classes c)
declares classes c lacks = go (is_new classes c) refl
  where
    go : (b : Bool) → is_new classes c ≡ b → Declares classes (cond b (classes ++ c ∷ []) classes)
    go true e = record { declared = λ name d. is_declared-grown classes c name d; parents = λ h. parents_grown classes c e lacks h; matches = λ h t x d. matches_grown classes c h t x d }
    go false e = record { declared = λ name d. d; parents = λ h. h; matches = λ h t x d. refl }

pub placed_declare : (st : State) (after : List Class) → Declares st.classes after → IsPlaced st → IsPlaced (record st { classes = after })
placed_declare st after k h = record {
  rows = each_weaker (RowFits st.classes st.transactions) (RowFits after st.transactions) (λ r f. record { writer = f.writer; taker = f.taker; readers = f.readers; declared = k.declared r.entry.class f.declared }) st.rows h.rows;
  blocked = h.blocked;
  parents = k.parents h.parents;
}

-- ---- what waits, waits on

pub any_matches : (classes after : List Class) (ts : List Template) (e : Entry) → ((t : Template) → matches after t e ≡ matches classes t e) → list_any (λ t. matches after t e) ts ≡ list_any (λ t. matches classes t e) ts
any_matches classes after [] e h = refl
any_matches classes after (t ∷ ts) e h = rw (h t) (ap (λ b. matches classes t e || b) (any_matches classes after ts e h))

waits_on : (classes after : List Class) (rows : List Row) (b : Blocked) → Each (λ (r : Row). (t : Template) → matches after t r.entry ≡ matches classes t r.entry) rows → waits after rows b ≡ waits classes rows b
waits_on classes after rows b h =
    let Same : Row → Type 0 = λ r. list_any (λ t. matches after t r.entry) b.templates ≡ list_any (λ t. matches classes t r.entry) b.templates in
    let same : Each Same rows = each_weaker (λ (r : Row). (t : Template) → matches after t r.entry ≡ matches classes t r.entry) Same (λ r k. any_matches classes after b.templates r.entry k) rows h in
    let free = filter_alike (λ r. (r.space == b.space && list_any (λ t. matches after t r.entry) b.templates) && (if is_take b.form then takeable b.transaction r else readable b.transaction r))
    (λ r. (r.space == b.space && list_any (λ t. matches classes t r.entry) b.templates) && (if is_take b.form then takeable b.transaction r else readable b.transaction r))
    rows (each_weaker Same _ (λ r k. rw k refl) rows same) in
    let held = any_alike (λ r. (r.space == b.space && list_any (λ t. matches after t r.entry) b.templates) && conflicts (is_take b.form) b.transaction r)
    (λ r. (r.space == b.space && list_any (λ t. matches classes t r.entry) b.templates) && conflicts (is_take b.form) b.transaction r)
    rows (each_weaker Same _ (λ r k. rw k refl) rows same) in
    rw (free, held) refl

pub quiet_declare : (st : State) (after : List Class) (p : ℕ) → Declares st.classes after → IsPlaced st → is_quiet st p ≡ true → is_quiet (record st { classes = after }) p ≡ true
quiet_declare st after p k h q =
    let parts : Quiet st p = quiet_parts st p q in
    let on : (b : Blocked) → waits after st.rows b ≡ waits st.classes st.rows b =
    λ b. waits_on st.classes after st.rows b (each_weaker (RowFits st.classes st.transactions) (λ (r : Row). (t : Template) → matches after t r.entry ≡ matches st.classes t r.entry) (λ r f t. k.matches h.parents t r.entry f.declared) st.rows h.rows) in
    quiet_from (record st { classes = after }) p (record {
      blocked = there_alike p (waits after st.rows) (waits st.classes st.rows) (λ b e. on b) st.blocked ∙ parts.blocked;
      registrations = parts.registrations;
    })
