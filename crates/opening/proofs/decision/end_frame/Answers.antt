use Rattle.std.proofs.Common.{arith}
use Rattle.opening.proofs.Arms.{frame_goes, frame_last}
use Rattle.opening.proofs.decision.end_frame.Goals as goal

pub returns-then-last : goal.returns-then-last
returns-then-last c = λ m ls ps z st.
    frame_last c.args.frames.now ls ps c.args.size st c.end_frame.new.self z (omega arith) (c.in_ok-end_frame.ensures.adds ls ps st.0)

pub returns : goal.returns
returns c = λ m ls ps z st.
    frame_goes c.args.frames.now ls ps c.args.size st c.end_frame.new.self z (omega arith) (c.in_ok-end_frame.ensures.adds ls ps st.0)
