pub mod PartsLaws
pub mod NumbersLaws
pub mod NumeralLaws
pub mod CutLaws
pub mod IntLaws
pub mod PutsLaws
