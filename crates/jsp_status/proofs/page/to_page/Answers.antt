use Rattle.std.proofs.Common.{rules, ◌≡◌, ℕ, List, ◌++◌, ap, subst, ◌∙◌}
use Rattle.std.specs.List.{flat_map}
use Rattle.jsp_status.specs.declared.chart.Chart.{Chart}
use Rattle.jsp_status.specs.declared.page.TheConstants.{HEAD, REFUSALS, SPACES, CONNECTIONS, CHARTS, FOOT}
use Rattle.jsp_status.specs.declared.status.ConnectionStatus.{ConnectionStatus}
use Rattle.jsp_status.specs.declared.status.RefusalCount.{RefusalCount}
use Rattle.jsp_status.specs.declared.status.SpaceStatus.{SpaceStatus}
use Rattle.jsp_status.specs.Chart.{chart_text}
use Rattle.jsp_status.specs.Page.{connection_row, counts_text, page_of, refusal_row, space_row}
use Rattle.jsp_status.specs.Tags.{tags_in}
use Rattle.jsp_status.proofs.Appended.{appended-ten}
use Rattle.jsp_status.proofs.Tags.{tags_of_page}
use Rattle.jsp_status.proofs.page.to_page.Goals as goal

pub returns-clause-shown : goal.returns-clause-shown
unfolding page_of
returns-clause-shown c =
    let s = c.args.status.now in
    let counts : c.push_counts.new.page.items ≡ HEAD.now ++ counts_text s =
    c.in_ok-push_counts.ensures ∙ ap (λ (xs : List ℕ). xs ++ counts_text s) c.in_ok-page.ensures.items in
    let before_refusals : c.extend_from_slice.new.self.items ≡ c.push_counts.new.page.items ++ REFUSALS.now = search rules in
    let refusals : c.push_refusals.new.page.items ≡ c.extend_from_slice.new.self.items ++ flat_map refusal_row s.refusals.items =
    subst (λ (rs : List RefusalCount). c.push_refusals.new.page.items ≡ c.extend_from_slice.new.self.items ++ flat_map refusal_row rs)
    c.deref.ensures.value c.in_ok-push_refusals.ensures in
    let before_spaces : c.extend_from_slice-2.new.self.items ≡ c.push_refusals.new.page.items ++ SPACES.now = search rules in
    let spaces : c.push_spaces.new.page.items ≡ c.extend_from_slice-2.new.self.items ++ flat_map space_row s.spaces.items =
    subst (λ (ss : List SpaceStatus). c.push_spaces.new.page.items ≡ c.extend_from_slice-2.new.self.items ++ flat_map space_row ss)
    c.deref-2.ensures.value c.in_ok-push_spaces.ensures in
    let before_connections : c.extend_from_slice-3.new.self.items ≡ c.push_spaces.new.page.items ++ CONNECTIONS.now = search rules in
    let connections : c.push_connections.new.page.items ≡ c.extend_from_slice-3.new.self.items ++ flat_map connection_row s.connection_list.items =
    subst (λ (cs : List ConnectionStatus). c.push_connections.new.page.items ≡ c.extend_from_slice-3.new.self.items ++ flat_map connection_row cs)
    c.deref-3.ensures.value c.in_ok-push_connections.ensures in
    let before_charts : c.extend_from_slice-4.new.self.items ≡ c.push_connections.new.page.items ++ CHARTS.now = search rules in
    let charts : c.push_charts.new.page.items ≡ c.extend_from_slice-4.new.self.items ++ flat_map chart_text s.charts.items =
    subst (λ (cs : List Chart). c.push_charts.new.page.items ≡ c.extend_from_slice-4.new.self.items ++ flat_map chart_text cs)
    c.deref-4.ensures.value c.in_ok-push_charts.ensures in
    let foot : c.extend_from_slice-5.new.self.items ≡ c.push_charts.new.page.items ++ FOOT.now = search rules in
    appended-ten HEAD.now (counts_text s) REFUSALS.now (flat_map refusal_row s.refusals.items) SPACES.now
    (flat_map space_row s.spaces.items) CONNECTIONS.now (flat_map connection_row s.connection_list.items) CHARTS.now
    (flat_map chart_text s.charts.items) FOOT.now _ _ _ _ _ _ _ _ _ _ counts before_refusals refusals before_spaces spaces
    before_connections connections before_charts charts foot

pub returns-clause-tags : goal.returns-clause-tags
returns-clause-tags c = ap tags_in (returns-clause-shown c) ∙ tags_of_page c.args.status.now
