use Rattle.std.proofs.Common.{◌≡◌, take}
use Rattle.krml_hoist.specs.Walk.{made_all, after_all, made_items, after_items, made_arms, after_arms, made_cases, after_cases}
use Rattle.krml_hoist.proofs.hoister.Hoister.+hoist.Given as goal

abbrev pub invariant-each-loop-e : goal.invariant-each-loop-e
invariant-each-loop-e l = record {
  made : l.all ≡ made_all (take l.e-index l.es) l.initial.self;
  walked : l.self ≡ after_all (take l.e-index l.es) l.initial.self;
}

abbrev pub invariant-each_item-loop-i : goal.invariant-each_item-loop-i
invariant-each_item-loop-i l = record {
  made : l.all ≡ made_items (take l.i-index l.items) l.initial.self;
  walked : l.self ≡ after_items (take l.i-index l.items) l.initial.self;
}

abbrev pub invariant-each_arm-loop-a : goal.invariant-each_arm-loop-a
invariant-each_arm-loop-a l = record {
  made : l.all ≡ made_arms (take l.a-index l.arms) l.initial.self;
  walked : l.self ≡ after_arms (take l.a-index l.arms) l.initial.self;
}

abbrev pub invariant-each_case-loop-c : goal.invariant-each_case-loop-c
invariant-each_case-loop-c l = record {
  made : l.all ≡ made_cases (take l.c-index l.list) l.initial.self;
  walked : l.self ≡ after_cases (take l.c-index l.list) l.initial.self;
}
