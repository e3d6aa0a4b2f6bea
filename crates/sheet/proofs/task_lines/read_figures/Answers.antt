use Rattle.std.proofs.Common.{Ok, Err}
use Rattle.std.proofs.lemmas.Result.{err_from_is_err_and}
use Rattle.sheet.specs.Reading.{read_number}
use Rattle.sheet.proofs.Steps.{reads, third, fourth, fifth, sixth}
use Rattle.sheet.proofs.task_lines.read_figures.Goals as goal

pub returns-in_err-length : goal.returns-in_err-length
returns-in_err-length c =
    let s = c.args.rest.now in
    let m = c.in_ok-offset.ensures.moved in
    let offset = reads (third s c.requires) (λ l f. read_number l f 0) (Ok c.in_ok-offset.offset) c.in_ok-offset.ensures.value in
    let fault = reads (fourth s c.requires c.read_number.new.self m) (λ l f. read_number l f 1) (Err c.in_err-length.field-0.0) c.in_err-length.ensures.value in
    let exit = err_from_is_err_and c.from_residual-in_err-length.result c.from_residual-in_err-length.ensures.1 in
    rw (exit.1, exit.2, offset, fault)

pub returns-in_err-deadline : goal.returns-in_err-deadline
returns-in_err-deadline c =
    let s = c.args.rest.now in
    let t = c.read_number.new.self in
    let m = c.in_ok-offset.ensures.moved in
    let n = c.in_ok-length.ensures.moved in
    let offset = reads (third s c.requires) (λ l f. read_number l f 0) (Ok c.in_ok-offset.offset) c.in_ok-offset.ensures.value in
    let length = reads (fourth s c.requires t m) (λ l f. read_number l f 1) (Ok c.in_ok-length.length) c.in_ok-length.ensures.value in
    let fault = reads (fifth s c.requires t c.read_number-2.new.self m n) (λ l f. read_number l f c.in_ok-length.length) (Err c.in_err-deadline.field-0.0) c.in_err-deadline.ensures.value in
    let exit = err_from_is_err_and c.from_residual-in_err-deadline.result c.from_residual-in_err-deadline.ensures.1 in
    rw (exit.1, exit.2, offset, length, fault)

pub returns-in_err-period : goal.returns-in_err-period
returns-in_err-period c =
    let s = c.args.rest.now in
    let t = c.read_number.new.self in
    let u = c.read_number-2.new.self in
    let m = c.in_ok-offset.ensures.moved in
    let n = c.in_ok-length.ensures.moved in
    let offset = reads (third s c.requires) (λ l f. read_number l f 0) (Ok c.in_ok-offset.offset) c.in_ok-offset.ensures.value in
    let length = reads (fourth s c.requires t m) (λ l f. read_number l f 1) (Ok c.in_ok-length.length) c.in_ok-length.ensures.value in
    let deadline = reads (fifth s c.requires t u m n) (λ l f. read_number l f c.in_ok-length.length) (Ok c.in_ok-deadline.deadline) c.in_ok-deadline.ensures.value in
    let fault = reads (sixth s c.requires t u c.read_number-3.new.self m n c.in_ok-deadline.ensures.moved) (λ l f. read_number l f c.in_ok-deadline.deadline) (Err c.in_err-period.field-0.0) c.in_err-period.ensures.value in
    let exit = err_from_is_err_and c.from_residual-in_err-period.result c.from_residual-in_err-period.ensures.1 in
    rw (exit.1, exit.2, offset, length, deadline, fault)
