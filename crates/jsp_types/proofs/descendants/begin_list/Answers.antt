use Rattle.std.proofs.Common.{Some, string_bytes, ◌∙◌, ap}
use Rattle.std.specs.HashMap.{get_by_text}
use Rattle.std.proofs.lemmas.Map.Text.{hash_map_updates_text}
use Rattle.jsp_types.proofs.Descending.{Keeps-written, none_is_in}
use Rattle.jsp_types.proofs.descendants.begin_list.Goals as goal

pub returns-clause-keeps : goal.returns-clause-keeps
returns-clause-keeps c =
    Keeps-written (get_by_text c.args.lists.now) (get_by_text c.insert.new.self) (string_bytes c.in_ok-key.key) c.add.new.self
    (hash_map_updates_text (string_bytes c.in_ok-key.key) c.args.lists.now c.insert.new.self (Some c.add.new.self) c.in_ok-insert.ensures.updates)
    (λ name there. none_is_in (get_by_text c.args.lists.now (string_bytes c.in_ok-key.key)) name (ap (get_by_text c.args.lists.now) c.in_ok-key.ensures.ok ∙ c.requires) there)
