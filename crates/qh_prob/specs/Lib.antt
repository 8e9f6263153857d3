-- The definitions that contracts cite: probabilities, their sum, least forms, lines, the text of several.
pub mod Probability
pub mod Forms
pub mod Laws
pub mod Texts
