use Rattle.std.proofs.Common.{ℕ, ◌+◌, ◌-◌, List, take, Ok, Err, sym, ap, ◌∙◌, arith, rules}
use Rattle.circuit_text.specs.Lines.{listed}
use Rattle.circuit_text.specs.Sections.{lines_of, lines_on}
use Rattle.std.proofs.lemmas.Result.{err_from_is_err_and}
use Rattle.refusal.proofs.Passed.{passed_ok, passed_err}
use Rattle.circuit_text.proofs.LinesExact.{kept_width}
use Rattle.circuit_text.proofs.Sections.{lines_step, lines_end, width_more, drop_further}
use Rattle.circuit_text.proofs.section.section.Goals as goal

pub store-used-requires : goal.store-used-requires
store-used-requires c =
    let was = passed_ok _ c.map_err.result c.read_line-read.result _ c.map_err.ensures.cases c.in_ok-kept.was in
    let size = kept_width c.args.header.now c.args.kind c.loop-index.index c.args.text.now c.loop-index.place.offset (listed c.in_ok-kept.kept) c.in_ok-kept.next
    (sym (rw was at c.read_line-read.ensures)) in
    let more = width_more c.args.kind c.loop-index.index (lines_of c.args.header.now c.args.kind) (omega (arith, c.lines-index-end.ensures)) in
    omega (arith, size, more.1, c.requires.room, c.loop-index.invariant.used)

pub returns-in_err-kept-clause-read : goal.returns-in_err-kept-clause-read
returns-in_err-kept-clause-read c =
    let left = lines_of c.args.header.now c.args.kind - c.loop-index.index in
    let at = c.loop-index.place.offset in
    let p = err_from_is_err_and c.from_residual.result c.from_residual.ensures.1 in
    let q = passed_err _ c.map_err.result c.read_line-read.result (λ fault. record { fault = fault; offset = at }) c.in_err-kept.field-0.0 (λ e v h. search rules)
    c.map_err.ensures.cases c.in_err-kept.was in
    let step = lines_step c.args.header.now c.args.kind c.args.text.now left (left - 1) c.loop-index.index (take c.loop-index.place.used c.loop-index.area, at) (Err q.0)
    (omega (arith, c.lines-index-end.ensures)) (sym (rw q.1 at c.read_line-read.ensures)) in
    rw p.1 (sym c.loop-index.invariant.read ∙ (step ∙ ap (λ e. Err e) (sym (p.2 ∙ q.2))))

pub loop-index-preserved : goal.loop-index-preserved
loop-index-preserved c =
    let h = c.args.header.now in
    let kind = c.args.kind in
    let text = c.args.text.now in
    let i = c.loop-index.index in
    let used = c.loop-index.place.used in
    let left = lines_of h kind - (i + 1) in
    let kept = listed c.in_ok-kept.kept in
    let next = c.in_ok-kept.next in
    let was = passed_ok _ c.map_err.result c.read_line-read.result _ c.map_err.ensures.cases c.in_ok-kept.was in
    let read = sym (rw was at c.read_line-read.ensures) in
    let size = kept_width h kind i text c.loop-index.place.offset kept next read in
    let more = width_more kind i (lines_of h kind) (omega (arith, c.lines-index-end.ensures)) in
    let step = lines_step h kind text (lines_of h kind - i) left i (take used c.loop-index.area, c.loop-index.place.offset) (Ok (kept, next))
    (omega (arith, c.lines-index-end.ensures)) read in
    let new = c.store-used.result in
    record {
      used = omega (arith, c.store-used.ensures.used, size, more.0, c.loop-index.invariant.used);
      read = ap (λ (l : List ℕ). lines_on h kind text left (i + 1) (l, next)) c.store-used.ensures.stored ∙ (sym step ∙ c.loop-index.invariant.read);
      rest = c.store-used.ensures.rest ∙ drop_further c.loop-index.area c.args.area.now used new (omega (arith, c.store-used.ensures.used)) c.loop-index.invariant.rest;
    }

pub returns-clause-read : goal.returns-clause-read
returns-clause-read c =
    let h = c.args.header.now in
    let kind = c.args.kind in
    record {
      stored = sym c.loop-index.invariant.read
          ∙ lines_end h kind c.args.text.now (lines_of h kind - c.loop-index.index) c.loop-index.index
          (take c.loop-index.place.used c.loop-index.area, c.loop-index.place.offset) (omega (arith, c.lines-index-end.ensures));
      rest = c.loop-index.invariant.rest;
    }
