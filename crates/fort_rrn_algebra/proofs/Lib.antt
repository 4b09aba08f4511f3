mod NegationLaws
mod TableMade
