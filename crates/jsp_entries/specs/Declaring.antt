-- Declaring a class.
use Rattle.jsp_types.specs.declared.class.ClassFault.{ClassFault}
use Rattle.jsp_types.specs.declared.class.ClassFault.TheVariants as class
use Rattle.jsp_types.specs.Classes.{declared}
use Rattle.jsp_wire.specs.declared.ask.Declare.{Declare}
use Rattle.jsp_reply.specs.declared.refusal.Refusal.{Refusal}
use Rattle.jsp_reply.specs.declared.refusal.Refusal.TheVariants.{BadClass, Differs, UnknownClass, TooMany}
use Rattle.jsp_model.specs.declared.state.State.{State}
use Rattle.jsp_model.specs.Requests.{class_asked}

-- a class's fault, as the refusal of its declaration
abbrev pub refusal_of : ClassFault → Refusal
refusal_of class.BadClass = BadClass
refusal_of class.Differs = Differs
refusal_of class.UnknownParent = UnknownClass
refusal_of class.TooMany = TooMany

-- the class is declared
abbrev pub after_declare : State → Declare → State
after_declare st d = record st { classes = declared st.classes (class_asked d) }
