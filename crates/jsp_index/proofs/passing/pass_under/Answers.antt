use Rattle.jsp_index.specs.declared.starts.Unseen.{Unseen}
use Rattle.jsp_index.specs.declared.starts.Unseen.TheVariants.{Nothing, Taken, Hidden, Held}
use Rattle.jsp_index.specs.declared.starts.ListStart.{ListStart}
use Rattle.jsp_table.specs.Finding.{AreNamed}
use Rattle.jsp_index.specs.Finding.{number}
use Rattle.jsp_index.specs.Starts.{number_at}
use Rattle.jsp_index.specs.Passed.{is_free, is_open, is_public, is_untaken, AreAbove}
use Rattle.jsp_index.proofs.Heads.{has_key, key_above, above_both, free_public, public_untaken, raised_or_not, after_each}
use Rattle.jsp_index.proofs.passing.pass_under.Goals as goal

pub returns-then-ne : goal.returns-then-ne
returns-then-ne c =
    let seed = c.args.seed in
    let starts = c.args.starts.now in
    let key = c.args.key in
    let rows = c.args.rows.now in
    let before : (u : Unseen) → AreAbove (has_key seed key) (is_open u) (number_at u c.start_of-start.result) rows = λ u. key_above seed starts key (number_at u c.start_of-start.result) u (has_key seed key) rows (c.start_of-start.ensures u) (λ r k. k) c.requires in
    let next : ListStart = record { taken = c.further-taken.result; hidden = c.further-hidden.result; held = c.further-held.result } in
    let named : AreNamed number (has_key seed key) c.in-Some.numbers.now rows = c.in-Some.ensures in
    let kind = has_key seed key in
    let taken : AreAbove kind is_untaken c.further-taken.result rows = c.further-taken.ensures kind named (before Taken) in
    let hidden : AreAbove kind is_public c.further-hidden.result rows = c.further-hidden.ensures kind named (above_both kind is_public is_untaken c.start_of-start.result.hidden c.further-taken.result c.max.result rows c.max.ensures public_untaken (before Hidden) taken) in
    let held : AreAbove kind is_free c.further-held.result rows = c.further-held.ensures kind named (above_both kind is_free is_public c.start_of-start.result.held c.further-hidden.result c.max-2.result rows c.max-2.ensures free_public (before Held) hidden) in
    raised_or_not seed starts c.set_start.new.starts key rows next c.set_start.result c.set_start.ensures.ok c.set_start.ensures.err (after_each seed key rows next taken hidden held (before Nothing)) c.requires
