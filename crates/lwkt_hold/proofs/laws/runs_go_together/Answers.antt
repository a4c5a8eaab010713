use Rattle.std.proofs.Common.{inl, inr}
use Rattle.lwkt_hold.specs.Fronts.{IsFront, IsBetween}
use Rattle.lwkt_hold.proofs.RunMoves.{ran_then, ran_weaker, ran_with_room}
use Rattle.lwkt_hold.proofs.ReadMoves.{ran_still}
use Rattle.lwkt_hold.proofs.laws.runs_go_together.Goals as goal

pub returns-clause-nothing : goal.returns-clause-nothing
returns-clause-nothing c = λ refs others most s t. ran_still (IsBetween refs others) most s t

pub returns-clause-chain : goal.returns-clause-chain
returns-clause-chain c = λ refs others m n a b d t u v first second. ran_then (IsBetween refs others) m n a b d t u v first second

pub returns-clause-widen : goal.returns-clause-widen
returns-clause-widen c = λ refs others m n a b t u wider ran. (
  ran_weaker (IsFront refs) (IsBetween refs others) m n a b t u (λ h front. inl front) wider ran,
  ran_weaker (IsFront refs) (IsBetween others refs) m n a b t u (λ h front. inr front) wider ran,
)

pub returns-clause-room : goal.returns-clause-room
returns-clause-room c = λ refs others most a b t u v same long wider ran. ran_with_room (IsBetween refs others) most a b t u v same long wider ran
