use Rattle.std.proofs.Common.{arith, inl, inr, ◌⊎◌}
use Rattle.class_text.proofs.ClassLaws.{few_of}
use Rattle.class_text.proofs.ContentPlaces.{content_cut, code_content_cut}
use Rattle.class_text.proofs.ClassStops.{code_tied}
use Rattle.class_text.proofs.files.content_place_law.Goals as goal

pub returns-clause-content : goal.returns-clause-content
returns-clause-content c = λ pool stand name at end bytes fault is named are room e behind. content_cut pool (few_of pool is) name named at stand end bytes fault are (omega (arith, room)) e behind

pub returns-clause-code : goal.returns-clause-code
returns-clause-code c = λ pool name at end bytes fault is named are room e behind. code_content_cut pool (few_of pool is) name named at end bytes fault are (omega (arith, room)) e behind

pub returns-clause-inner : goal.returns-clause-inner
returns-clause-inner c = λ pool name at end bytes fault is are room e. turn (code_tied pool (few_of pool is) name at end bytes fault are (omega (arith, room)) e)
  where
    turn : {A B : Type 0} → A ⊎ B → B ⊎ A
    turn (inl a) = inr a
    turn (inr b) = inl b
