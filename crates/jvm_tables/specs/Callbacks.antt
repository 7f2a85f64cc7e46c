-- The methods that natives call back.
use Rattle.std.specs.Prelude.{codes}
use Rattle.jvm_tables.specs.declared.natives.Callback.{Callback}
use Rattle.jvm_tables.specs.declared.natives.Callback.TheVariants.{ToString, Equals, Accept, Apply, ApplyTwo, Test}
use Rattle.jvm_tables.specs.Externals.{Method}

abbrev pub called_back : Callback → Method
called_back ToString = record { class = codes "java/lang/Object"; name = codes "toString"; descriptor = codes "()Ljava/lang/String;" }
called_back Equals = record { class = codes "java/lang/Object"; name = codes "equals"; descriptor = codes "(Ljava/lang/Object;)Z" }
called_back Accept = record { class = codes "java/util/function/Consumer"; name = codes "accept"; descriptor = codes "(Ljava/lang/Object;)V" }
called_back Apply = record { class = codes "java/util/function/Function"; name = codes "apply"; descriptor = codes "(Ljava/lang/Object;)Ljava/lang/Object;" }
called_back ApplyTwo = record { class = codes "java/util/function/BiFunction"; name = codes "apply"; descriptor = codes "(Ljava/lang/Object;Ljava/lang/Object;)Ljava/lang/Object;" }
called_back Test = record { class = codes "java/util/function/Predicate"; name = codes "test"; descriptor = codes "(Ljava/lang/Object;)Z" }
