-- The law of traces, and its converse.
use Rattle.question_theory.specs.Traces.{TraceLaw, TraceComplete}
use Rattle.question_theory.proofs.TraceSound.{trace_sound, trace_keeps}
use Rattle.question_theory.proofs.TraceComplete.{trace_refuted}
use Rattle.question_theory.proofs.QuestionOrder.{trace_each, trace_all}

pub trace_law : TraceLaw
trace_law m law o lo F n pos sc starts h =
    let safe = trace_sound m law o lo F n sc starts (trace_each m o F n h) in
    (safe, trace_keeps m law o F n pos safe)

pub trace_complete : TraceComplete
trace_complete m law o lo F n pos sc safe = trace_all m o F n (trace_refuted m law o lo F n sc safe)
