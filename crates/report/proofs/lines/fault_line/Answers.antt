use Rattle.std.proofs.Common.{◌≡◌, ◌≤◌, [], ◌∷◌, ◌++◌, length, codes, sym, subst, arith, rules, append_assoc}
use Rattle.model.specs.Faults.{fault_text}
use Rattle.model.specs.declared.fault.Fault.{Fault}
use Rattle.report.specs.Pages.{Room}
use Rattle.report.specs.Printed.{code_line, fault_line, row, verdict_room}
use Rattle.report.proofs.Bounds.{fault_le, fault_room}
use Rattle.report.proofs.lines.fault_line.Goals as goal

pub row-requires : goal.row-requires
row-requires c =
    let k = c.code.result in
    subst (λ ns. Room c.args.page.now (row (codes "fault") ns)) (sym c.code_figures.ensures)
    (fault_room c.args.page.now k.number k.layer k.first k.second c.requires (omega (arith, c.code.type_inv)) (omega (arith, c.code.type_inv)) (omega (arith, c.code.type_inv)) (omega (arith, c.code.type_inv)))

-- the fault as it prints itself, and the byte 10
printed_too : (f : Fault) → fault_line f ≡ fault_text f ++ 10 ∷ []
printed_too f = simp append_assoc

pub returns : goal.returns
returns c =
    let k = c.code.result in
    record {
      wrote = search rules;
      short = subst (λ x. length (code_line x) ≤ verdict_room) c.code.ensures (fault_le k.number k.layer k.first k.second (omega (arith, c.code.type_inv)) (omega (arith, c.code.type_inv)) (omega (arith, c.code.type_inv)) (omega (arith, c.code.type_inv)));
      printed = printed_too c.args.fault;
    }
