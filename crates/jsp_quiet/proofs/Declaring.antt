-- A class that is declared in a steady state changes nothing for those who wait: each row's class is declared, and the
-- lines of declared classes stay as they are.
use Rattle.std.proofs.Common.{◌≡◌, refl, sym, ap, ◌∙◌, subst, ℕ, List, [], ◌∷◌, ◌++◌, Bool, true, false, cond, ◌&&◌, ◌==◌, Option, Some, None, true≢false}
use Rattle.std.specs.List.{list_any}
use Rattle.jsp_types.specs.declared.class.Class.{Class}
use Rattle.jsp_types.specs.Classes.{is_new, declared}
use Rattle.jsp_types.specs.Matching.{matches}
use Rattle.jsp_wire.specs.declared.ask.Ask.{Ask}
use Rattle.jsp_wire.specs.declared.ask.Ask.TheVariants as ask
use Rattle.jsp_reply.specs.declared.refusal.Refusal.{Refusal}
use Rattle.jsp_model.specs.declared.state.State.{State}
use Rattle.jsp_model.specs.declared.state.Row.{Row}
use Rattle.jsp_model.specs.declared.state.Blocked.{Blocked}
use Rattle.jsp_model.specs.declared.step.Step.{Step}
use Rattle.jsp_model.specs.declared.step.Step.TheVariants as step
use Rattle.jsp_model.specs.Requests.{class_asked}
use Rattle.jsp_model.specs.Sight.{wants}
use Rattle.jsp_model.specs.Changes.{accepted}
use Rattle.jsp_model.specs.Refusals.{refusal}
use Rattle.jsp_model.specs.Steps.{after_ask, change, next}
use Rattle.jsp_laws.proofs.Lists.{Each, each_weaker}
use Rattle.jsp_quiet.specs.Steady.{RowFits, IsPlaced, IsSteady}
use Rattle.jsp_quiet.specs.Freeing.{ask_frees_any, frees_any, AsksAlike}
use Rattle.jsp_quiet.proofs.Descent.{matches_grown, any_matches}

alike_none : (st : State) → AsksAlike st st
alike_none st = record { rows = refl; blocked = refl; wants = λ b. each_weaker (λ (row : Row). Unit {0}) (λ (row : Row). wants st b row ≡ wants st b row) (λ row t. refl) st.rows (units st.rows) }
  where
    units : (rows : List Row) → Each (λ (row : Row). Unit {0}) rows
    units [] = tt
    units (row ∷ rows) = (tt, units rows)

-- with one class more
alike_grown : (st : State) (c : Class) → IsPlaced st → AsksAlike st (record st { classes = st.classes ++ c ∷ [] })
alike_grown st c h =
    let after : List Class = st.classes ++ c ∷ [] in
    let same : (b : Blocked) (row : Row) → RowFits st.classes st.transactions row → wants (record st { classes = after }) b row ≡ wants st b row =
    λ b row fits. ap (λ (w : Bool). row.space == b.space && w) (any_matches st.classes after b.templates row.entry (λ t. matches_grown st.classes c h.parents t row.entry fits.declared)) in
    record {
      rows = refl;
      blocked = refl;
      wants = λ b. each_weaker (RowFits st.classes st.transactions) (λ (row : Row). wants (record st { classes = after }) b row ≡ wants st b row) (same b) st.rows h.rows;
    }

alike_declared : (st : State) (c : Class) → IsPlaced st → AsksAlike st (record st { classes = declared st.classes c })
alike_declared st c h = go (is_new st.classes c)
  where
    go : (b : Bool) → AsksAlike st (record st { classes = cond b (st.classes ++ c ∷ []) st.classes })
    go true = alike_grown st c h
    go false = alike_none st

alike_accepted : (st : State) (s id : ℕ) (ns : List ℕ) (a : Ask) → IsPlaced st → ask_frees_any st a ≡ true → AsksAlike st (accepted st s id ns a)
alike_accepted st s id ns (ask.Declare d) h e = alike_declared st (class_asked d) h
alike_accepted st s id ns _ h e = absurd (true≢false (sym e))

alike_asked : (st : State) (s id : ℕ) (ns : List ℕ) (a : Ask) (o : Option Refusal) → IsPlaced st → ask_frees_any st a ≡ true → AsksAlike st (after_ask st s id ns a o)
alike_asked st s id ns a None h e = alike_accepted st s id ns a h e
alike_asked st s id ns a (Some why) h e = alike_none st

alike_change : (st : State) (act : Step) → IsPlaced st → frees_any st act ≡ true → AsksAlike st (change st act)
alike_change st (step.Ask s a ns) h e = alike_asked st s a.id ns a.ask (refusal st s a.id a.ask) h e
alike_change st _ h e = absurd (true≢false (sym e))

pub declaring_stays : (st : State) (act : Step) → IsSteady st → frees_any st act ≡ true → AsksAlike st (next st act)
unfolding next
declaring_stays st act h e =
    let k : AsksAlike st (change st act) = alike_change st act h.placed e in
    record { rows = k.rows; blocked = k.blocked; wants = k.wants }
