use Rattle.std.proofs.Common.{◌≡◌, ◌+◌, ◌-◌, ◌*◌, take, drop}
use Rattle.circuit_text.specs.Sections.{width, lines_of, lines_on, section_on}
use Rattle.circuit_text.proofs.section.section.Given as goal

abbrev pub invariant-loop-index : goal.invariant-loop-index
invariant-loop-index l = record {
  used : l.place.used ≡ l.initial.place.used + width l.kind * l.index;
  read : lines_on l.header l.kind l.text (lines_of l.header l.kind - l.index) l.index (take l.place.used l.area, l.place.offset)
      ≡ section_on l.header l.kind l.text (take l.initial.place.used l.initial.area, l.initial.place.offset);
  rest : drop l.place.used l.area ≡ drop l.place.used l.initial.area;
}
