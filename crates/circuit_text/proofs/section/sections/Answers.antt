use Rattle.circuit_text.proofs.Sections.{four_read}
use Rattle.circuit_text.proofs.section.sections.Goals as goal

pub returns-clause-read : goal.returns-clause-read
returns-clause-read c =
    (four_read c.args.header.now c.args.text.now c.args.start
    c.args.area.now c.section.new.area c.section-2.new.area c.section-3.new.area
    c.in_ok-place.place c.in_ok-place-2.place c.in_ok-place-3.place
    c.in_ok-place.ensures.read c.in_ok-place-2.ensures.read c.in_ok-place-3.ensures.read
    c.in_ok-place.ensures.used c.in_ok-place-2.ensures.used c.in_ok-place-3.ensures.used
    c.section-4.new.area c.section-4.result c.section-4.ensures.read c.section-4.ensures.used).0
