-- A registration to which a row is news is found under a key that the row seeks.
use Rattle.std.proofs.Common.{◌≡◌, ℕ, true, ◌&&◌, List, ◌∷◌, Option, sym, subst}
use Rattle.std.specs.Prelude.{◌==◌}
use Rattle.jsp_types.specs.declared.class.Class.{Class}
use Rattle.jsp_types.specs.Matching.{matches}
use Rattle.jsp_model.specs.declared.state.Row.{Row}
use Rattle.jsp_model.specs.declared.state.Registration.{Registration}
use Rattle.jsp_model.specs.Sight.{is_free}
use Rattle.jsp_table.specs.Numbers.{contains}
use Rattle.jsp_keys.specs.Keys.{session_key, space_key}
use Rattle.jsp_keys.specs.Templates.{template_keys, seeks}
use Rattle.jsp_keyed.proofs.Walking.{and_both, eqb_eq}
use Rattle.jsp_keyed.proofs.Sought.{has_later}
use Rattle.jsp_keyed.proofs.Seeking.{seeks_among, template_seeks}
use Rattle.jsp_notify.specs.Owing.{is_news}
use Rattle.jsp_notify.specs.Sought.{caller_key, registration_keys}

pub news_of : (seed : ℕ) (classes : List Class) (caller : Option ℕ) (row : Row) (r : Registration) → is_news classes caller r row ≡ true → seeks seed classes row.space row.entry (registration_keys seed r) ≡ true
news_of seed classes caller row r h =
    let here = (and_both (is_free r.transaction caller) (r.space == row.space && matches classes r.template row.entry) h).1 in
    let two = and_both (r.space == row.space) (matches classes r.template row.entry) here in
    let keys = λ (s : ℕ). template_keys seed s r.template in
    let there : seeks seed classes row.space row.entry (keys r.space) ≡ true = subst (λ (s : ℕ). seeks seed classes row.space row.entry (keys s) ≡ true) (sym (eqb_eq r.space row.space two.0)) (template_seeks seed classes row.space row.entry r.template two.1) in
    seeks_among seed classes row.space row.entry (keys r.space) (registration_keys seed r)
    (λ k e. has_later (caller_key seed r ∷ space_key seed r.space ∷ keys r.space) k (session_key seed r.session) (has_later (space_key seed r.space ∷ keys r.space) k (caller_key seed r) (has_later (keys r.space) k (space_key seed r.space) e))) there
