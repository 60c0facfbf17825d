use Rattle.std.proofs.Common.{rules, ◌≡◌, None}
use Rattle.std.proofs.lemmas.Map.Text.{btree_map_updates_str}
use Rattle.krml_ast.specs.Found.{has}
use Rattle.krml_ast.proofs.Firsts.{put_new}
use Rattle.krml_ast.proofs.first_places.FirstPlaces.add.Goals as goal

pub returns-in_ok-insert : goal.returns-in_ok-insert
returns-in_ok-insert c =
    let absent : has c.args.self.now c.args.name.now ≡ None = search rules in
    put_new (has c.args.self.now) (has (record { places = c.insert.new.self })) c.args.name.now c.args.place absent
    (btree_map_updates_str c.args.name.now c.args.self.now.places c.insert.new.self _ c.in_ok-insert.ensures.updates)
