use Rattle.std.proofs.Common.{◌≡◌, ◌∙◌, sym, refl, rules, arith, ap, suc, ◌-◌, ◌+◌, ◌≤◌, length}
use Rattle.std.specs.Prelude.{map, ◌*◌}
use Rattle.spd_meaning.specs.Values.{all_values}
use Rattle.spd_code.specs.Coded.{code_value}
use Rattle.spd_level.specs.Columns.{around_columns, context_of}
use Rattle.spd_level.proofs.Stepping.{call_refused, call_too_deep, call_of_none, call_met}
use Rattle.spd_level.specs.declared.frame.Flow.TheVariants as flow
use Rattle.spd_level.specs.declared.step.CallAt.{CallAt}
use Rattle.spd_level.proofs.level.Level.call.Goals as goal

pub returns-then-left-eq0 : goal.returns-then-left-eq0
returns-then-left-eq0 c code k =
    let r = all_values (map (λ e. code_value (around_columns c.args.columns.now) e c.args.self.now.vars.items c.args.line) c.args.args.now) in
    let h = rw (c.in-Ok.is, c.as_slice.ensures.entries, c.as_slice-2.ensures.value) at c.in_ok-args.ensures in
    call_too_deep (context_of code c.args.columns.now) c.args.self.now
    (record { flow = flow.Fault (c.args.line * 8 + 3); vars = c.args.self.now.vars; frames = c.args.self.now.frames })
    c.args.binds c.args.left c.args.items.now c.args.callee c.args.line r c.in-Ok.args.items
    (sym h) c.if-left-eq0.true refl refl

pub returns-then-callee-len : goal.returns-then-callee-len
returns-then-callee-len c code k =
    let r = all_values (map (λ e. code_value (around_columns c.args.columns.now) e c.args.self.now.vars.items c.args.line) c.args.args.now) in
    let h = rw (c.in-Ok.is, c.as_slice.ensures.entries, c.as_slice-2.ensures.value) at c.in_ok-args.ensures in
    let n : length c.args.items.now ≤ c.args.callee = search rules in
    let z : c.args.left ≡ suc (c.args.left - 1) = omega (arith, c.if-left-eq0.false) in
    call_of_none (context_of code c.args.columns.now) c.args.self.now c.keep.new.self c.args.binds c.args.left c.args.items.now c.args.callee c.args.line r
    c.in-Ok.args.items
    (c.args.left - 1)
    (sym h) z n (ap (λ v. v.items) c.keep.ensures.frames) (c.keep.ensures.flow ∙ c.requires) c.in_ok-keep-in-Ok.ensures.vars

pub returns-else-callee-len : goal.returns-else-callee-len
returns-else-callee-len c code k =
    let r = all_values (map (λ e. code_value (around_columns c.args.columns.now) e c.args.self.now.vars.items c.args.line) c.args.args.now) in
    let h = rw (c.in-Ok.is, c.as_slice.ensures.entries, c.as_slice-2.ensures.value) at c.in_ok-args.ensures in
    let z : c.args.left ≡ suc (c.args.left - 1) = omega (arith, c.if-left-eq0.false) in
    let call : CallAt = record { binds = c.args.binds; left = c.args.left - 1; item = c.get.result; args = c.in-Ok.args } in
    call_met (context_of code c.args.columns.now) c.args.self.now c.args.binds c.args.left c.args.items.now c.args.callee c.args.line r call (sym h)
    z c.get.ensures refl k c.requires

pub returns-in-Err : goal.returns-in-Err
returns-in-Err c code k =
    let r = all_values (map (λ e. code_value (around_columns c.args.columns.now) e c.args.self.now.vars.items c.args.line) c.args.args.now) in
    let h = rw (c.in-Err.is, c.as_slice.ensures.entries, c.as_slice-2.ensures.value) at c.in_ok-args.ensures in
    call_refused (context_of code c.args.columns.now) c.args.self.now
    (record { flow = flow.Fault c.in-Err.code; vars = c.args.self.now.vars; frames = c.args.self.now.frames })
    c.args.binds c.args.left c.args.items.now c.args.callee c.args.line r c.in-Err.code
    (sym h) refl refl
