-- What an emitter does.
use Rattle.std.specs.Prelude.{ℕ, ◌+◌, List, [], ◌∷◌, ◌++◌, if◌then◌else◌}
use Rattle.krml_syntax.specs.declared.tree.IntTy.{IntTy}
use Rattle.krml_syntax.specs.declared.tree.Field.{Field}
use Rattle.krml_syntax.specs.declared.tree.Item.{Item}
use Rattle.krml_syntax.specs.declared.tree.Def.{Def}
use Rattle.krml_syntax.specs.declared.tree.Expr.TheFolds.{fold-Item}
use Rattle.krml_ctree.specs.declared.tree.CBin.TheVariants as cop
use Rattle.krml_ctree.specs.declared.tree.CExpr.{CExpr}
use Rattle.krml_ctree.specs.declared.tree.CExpr.TheVariants as c
use Rattle.krml_ctree.specs.declared.tree.CStatement.TheVariants as st
use Rattle.krml_ctree.specs.declared.tree.CVar.{CVar}
use Rattle.krml_ctree.specs.declared.tree.CProgram.{CProgram}
use Rattle.krml_cstar.specs.declared.emitter.Emitter.{Emitter}
use Rattle.krml_cstar.specs.declared.given.Given.{Given}
use Rattle.krml_cstar.specs.declared.given.Apart.{Apart}
use Rattle.krml_ast.specs.Names.{fun_named}
use Rattle.krml_cstar.specs.Types.{ctype, is_unit}
use Rattle.krml_cstar.specs.Variables.{var, plain}
use Rattle.krml_cstar.specs.Numbers.{work}
use Rattle.krml_cstar.specs.Translation.{nothing, result_of, Comp, Out, Outs, ItemComp, ItemOut, code_step, item_step, structs_of, tables_of, funs_of}

-- the field of a struct
abbrev pub field_code : Field → CVar
field_code f = record { ty = ctype f.ty; name = f.name }

-- a program and what one definition more becomes
abbrev pub with_def : List Def → Def → CProgram → CProgram
with_def defs def p = record { structs = p.structs ++ structs_of def; tables = p.tables ++ tables_of def; funs = p.funs ++ funs_of defs def }

-- the highest bit is 1 where x is below y
abbrev pub below : CExpr → CExpr → CExpr
below x y = c.Bin cop.Or (c.Bin cop.Xor x y) (c.Bin cop.Xor (c.Bin cop.Sub x y) y)

-- the highest bit is 1 where x is not 0
abbrev pub differs : IntTy → CExpr → CExpr
differs i x = c.Bin cop.Or x (c.Bin cop.Sub (c.Lit (work i.width) 0) x)

-- a call, behind the statements of its arguments
abbrev pub calling : List Def → List ℕ → List CExpr → ℕ → Out
calling defs f es n =
    let r = result_of (fun_named defs f) in
    if is_unit r then record { code = st.Run f es ∷ []; value = nothing; ty = r; next = n }
    else record { code = st.Call (var n (ctype r)) f es ∷ []; value = c.Var (plain n); ty = r; next = n + 1 }

-- what an item becomes
abbrev pub item_code : List Def → Item → ItemComp
item_code defs = fold-Item Comp ItemComp (Unit {0}) (Unit {0}) (code_step defs) item_step (λ x. tt) (λ x. tt)

-- an emitter behind the statements of an expression
abbrev pub behind : Out → Emitter → Emitter
behind o m = record m { code = m.code ++ o.code; next = o.next }

abbrev pub after : Comp → Emitter → Emitter
after comp m = behind (comp.run m.scope m.next) m

abbrev pub after_all : Outs → Emitter → Emitter
after_all os m = record m { code = m.code ++ os.code; next = os.next }

abbrev pub after_items : ItemOut → Emitter → Emitter
after_items o m = record m { code = m.code ++ o.code; scope = o.names; next = o.next }

-- an emitter where the statements stand apart
abbrev pub beside : Out → Emitter → Emitter
beside o m = record m { next = o.next }

-- what an expression gives
abbrev pub given : Out → Given
given o = record { value = o.value; ty = o.ty }

-- the same with the statements
abbrev pub apart : Out → Apart
apart o = record { code = o.code; value = o.value; ty = o.ty }

-- what was given, without statements
abbrev pub alone : Given → Out
alone g = record { code = []; value = g.value; ty = g.ty; next = 0 }
