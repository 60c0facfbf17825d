use Rattle.std.proofs.Common.{◌≡◌, ◌++◌, map, drop}
use Rattle.krml_cstar.specs.Translation.{code_of, all, items}
use Rattle.krml_cstar.specs.Emitting.{item_code}
use Rattle.krml_cstar.proofs.emitter.Emitter.+emit.Given as goal

abbrev pub invariant-all-loop-e : goal.invariant-all-loop-e
invariant-all-loop-e l =
    let m = l.initial.self in
    let whole = all (map (code_of m.defs.now) l.es) m.scope m.next in
    let left = all (map (code_of m.defs.now) (drop l.e-index l.es)) m.scope l.self.next in
    record {
      code : l.self.code ++ left.code ≡ m.code ++ whole.code;
      values : l.values ++ left.values ≡ whole.values;
      next : left.next ≡ whole.next;
      rest : l.self ≡ record m { code = l.self.code; next = l.self.next };
    }

abbrev pub invariant-items-loop-item : goal.invariant-items-loop-item
invariant-items-loop-item l =
    let m = l.initial.self in
    let whole = items (map (item_code m.defs.now) l.items) m.scope m.next in
    let left = items (map (item_code m.defs.now) (drop l.item-index l.items)) l.self.scope l.self.next in
    record {
      code : l.self.code ++ left.code ≡ m.code ++ whole.code;
      names : left.names ≡ whole.names;
      next : left.next ≡ whole.next;
      rest : l.self ≡ record m { code = l.self.code; scope = l.self.scope; next = l.self.next };
    }
