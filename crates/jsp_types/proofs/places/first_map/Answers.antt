use Rattle.std.proofs.Common.{Some, string_bytes}
use Rattle.std.proofs.lemmas.Map.Text.{hash_map_updates_text}
use Rattle.jsp_types.proofs.places.first_map.Goals as goal

pub returns : goal.returns
returns c q =
    let updates = hash_map_updates_text (string_bytes c.args.key) c.new-map.result c.insert.new.self (Some c.args.place) c.in_ok-insert.ensures.updates q in
    rw (c.in_ok-new.ensures.ok) (rw c.new-map.ensures.empty at updates)
